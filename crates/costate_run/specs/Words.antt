-- What the words of a command line ask for. The first word is the command.
use Rattle.std.specs.Prelude.{ℕ, List, [], ◌∷◌, Option, Some, None, codes, if◌then◌else◌}
use Rattle.std.specs.Str.{bytes_eq}
use Rattle.clap.specs.Words.{App, Row, Text, new_app, with_rule}
use Rattle.run_parts.specs.Words.{CheckNames, check_app, check_of_rows, option, positional, step_in, taken, tolerance_in, value_of}
use Rattle.costate_run.specs.declared.command.FirstWord.{FirstWord}
use Rattle.costate_run.specs.declared.command.FirstWord.TheVariants as first_word

-- a command with its names and numbers, or a word about usage
pub data Command : Type 0 where
  Usage : Command
  -- a plan over the line, by the train and for the service in the files of these names, with a grid of this step in metres, at this tolerance
  -- in per mille
  Plan : List ℕ → List ℕ → List ℕ → ℕ → ℕ → Command
  -- a plan over the route in the file of this name, at this tolerance in per mille
  Route : List ℕ → ℕ → Command
  -- the check of the report in the last file, over the line, by the train and for the service in the first three, with a grid of this step
  -- in metres
  Check : List ℕ → List ℕ → List ℕ → List ℕ → ℕ → Command

-- ---- the simple commands

-- `plan LINE TRAIN SERVICE [--step N] [--tolerance N]`
abbrev pub plan_app : App
plan_app =
    with_rule (with_rule (with_rule (with_rule (with_rule (new_app (codes "plan")) (positional (codes "line")))
    (positional (codes "train"))) (positional (codes "service")))
    (option (codes "step") (codes "100"))) (option (codes "tolerance") (codes "10"))

-- `route FILE [--tolerance N]`
abbrev pub route_app : App
route_app = with_rule (with_rule (new_app (codes "route")) (positional (codes "file"))) (option (codes "tolerance") (codes "10"))

-- ---- the commands

-- `plan` of the files of these names, or the usage where a number isn't one in its range
abbrev pub plan_of_numbers : Text → Text → Text → Option ℕ → Option ℕ → Command
plan_of_numbers line train service None tolerance = Usage
plan_of_numbers line train service (Some step) None = Usage
plan_of_numbers line train service (Some step) (Some tolerance) = Plan line train service step tolerance

-- `plan`
abbrev pub plan_of_rows : Option (List Row) → Command
plan_of_rows None = Usage
plan_of_rows (Some rows) =
    plan_of_numbers (value_of (codes "line") rows) (value_of (codes "train") rows) (value_of (codes "service") rows) (step_in rows) (tolerance_in rows)

-- `route` of the file of this name, or the usage where the number isn't one in its range
abbrev pub route_of_number : Text → Option ℕ → Command
route_of_number file None = Usage
route_of_number file (Some tolerance) = Route file tolerance

-- `route`
abbrev pub route_of_rows : Option (List Row) → Command
route_of_rows None = Usage
route_of_rows (Some rows) = route_of_number (value_of (codes "file") rows) (tolerance_in rows)

-- `check` of these names, or the usage where there are none
abbrev pub check_of_names : Option CheckNames → Command
check_of_names None = Usage
check_of_names (Some (line, (train, (service, (report, step))))) = Check line train service report step

-- the command of a list of words
abbrev pub command_of : List (List ℕ) → Command
command_of [] = Usage
command_of (word ∷ words) =
    if bytes_eq word (codes "plan") then plan_of_rows (taken plan_app (word ∷ words))
    else if bytes_eq word (codes "route") then route_of_rows (taken route_app (word ∷ words))
    else if bytes_eq word (codes "check") then check_of_names (check_of_rows (taken check_app (word ∷ words)))
    else Usage

-- the command of words whose first word is this
abbrev pub command_by : FirstWord → List (List ℕ) → Command
command_by first_word.Plan words = plan_of_rows (taken plan_app words)
command_by first_word.Route words = route_of_rows (taken route_app words)
command_by first_word.Check words = check_of_names (check_of_rows (taken check_app words))
command_by first_word.Other words = Usage
