-- What is taken of the words of a command line. Each command is one simple command of clap, which reads all the words.
use Rattle.std.specs.Prelude.{ℕ, ◌&&◌, List, [], ◌∷◌, Option, Some, None, codes, if◌then◌else◌, unwrap_or, option_and_then, option_map, nat_le, true}
use Rattle.rail_base.specs.Numbers.{digits_number}
use Rattle.clap.specs.Words.{App, Row, Rule, Text, fault_of, first_of, matches_of, new_app, new_rule, with_rule}
use Rattle.clap.specs.Walk.{is_empty}
use Rattle.clap.specs.declared.builder.action.ArgAction.TheVariants.{Set}

-- ---- what simple commands are made of

-- a required positional of one value
abbrev pub positional : Text → Rule
positional id = record (new_rule id) { required = true; action = Some Set }

-- a long option of one value, with its default
abbrev pub option : Text → Text → Rule
option id standard = record (new_rule id) { long = Some id; action = Some Set; defaults = standard ∷ [] }

-- ---- what clap takes of the words, and what the texts that it takes mean

-- the rows of a command's arguments, or none where it refuses the words
unfoldable pub taken : App → List Text → Option (List Row)
taken app words = if is_empty (fault_of app words) then Some (matches_of app words) else None

-- the value of an argument
abbrev pub value_of : Text → List Row → Text
value_of id rows = unwrap_or (first_of id rows) []

-- a number in its range
abbrev pub in_range : ℕ → ℕ → ℕ → Option ℕ
in_range low high n = if nat_le low n && nat_le n high then Some n else None

-- the number of 1 to 10 decimal digits in a range, and none for any other text
abbrev pub number_in : ℕ → ℕ → Text → Option ℕ
number_in low high text = option_and_then (in_range low high) (digits_number 10 text)

-- the tolerance among the rows, 0 to 1,000 per mille
abbrev pub tolerance_in : List Row → Option ℕ
tolerance_in rows = number_in 0 1000 (value_of (codes "tolerance") rows)

-- the step of the grid among the rows, 10 to 1,000 metres
abbrev pub step_in : List Row → Option ℕ
step_in rows = number_in 10 1000 (value_of (codes "step") rows)

-- ---- the command `check`

-- `check LINE TRAIN SERVICE REPORT [--step N]`
abbrev pub check_app : App
check_app =
    with_rule (with_rule (with_rule (with_rule (with_rule (new_app (codes "check")) (positional (codes "line")))
    (positional (codes "train"))) (positional (codes "service"))) (positional (codes "report")))
    (option (codes "step") (codes "100"))

-- the names of a line, a train, a service and a report, and the step of a grid in metres
abbrev pub CheckNames : Type 0
CheckNames = Text × (Text × (Text × (Text × ℕ)))

-- these names with the step, or none where there is none
abbrev pub check_of_step : Text → Text → Text → Text → Option ℕ → Option CheckNames
check_of_step line train service report None = None
check_of_step line train service report (Some step) = Some (line, (train, (service, (report, step))))

-- what `check` is asked, or none where clap refuses the words or the step isn't a number in its range
abbrev pub check_of_rows : Option (List Row) → Option CheckNames
check_of_rows None = None
check_of_rows (Some rows) =
    check_of_step (value_of (codes "line") rows) (value_of (codes "train") rows) (value_of (codes "service") rows)
    (value_of (codes "report") rows) (step_in rows)
