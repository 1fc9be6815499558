-- What the words of a command line ask for.
-- The first word is the command. Each command is one simple command of clap, which reads all the words.
use Rattle.std.specs.Prelude.{ℕ, List, [], ◌∷◌, Option, Some, None, codes, if◌then◌else◌}
use Rattle.std.specs.Str.{bytes_eq}
use Rattle.clap.specs.Words.{App, Row, Text, new_app, with_rule}
use Rattle.run_parts.specs.Words.{CheckNames, check_app, check_of_rows, number_in, option, positional, step_in, taken, tolerance_in, value_of}
use Rattle.advice_run.specs.declared.command.FirstWord.{FirstWord}
use Rattle.advice_run.specs.declared.command.FirstWord.TheVariants as first_word

-- a command with its names and numbers, or a word about usage
pub data Command : Type 0 where
  Usage : Command
  -- a plan over the route in the file of this name, with so many splits of cells, at this tolerance in per mille
  Route : List ℕ → ℕ → ℕ → Command
  -- a plan over the line, by the train and for the service in the files of these names, with a grid of this step in metres, with so many
  -- splits of cells, at this tolerance in per mille
  Plan : List ℕ → List ℕ → List ℕ → ℕ → ℕ → ℕ → Command
  -- the check of the report in the last file, over the line, by the train and for the service in the first three, with a grid of this step
  -- in metres
  Check : List ℕ → List ℕ → List ℕ → List ℕ → ℕ → Command
  -- the answers to the events in the last file, over the line, by the train and for the service in the first three, with a grid of this step
  -- in metres, with so many splits of cells for each advice, at this tolerance in per mille
  Session : List ℕ → List ℕ → List ℕ → List ℕ → ℕ → ℕ → ℕ → Command
  -- a plan over the sample of this number, with so many splits of cells, at this tolerance in per mille
  Sample : ℕ → ℕ → ℕ → Command

-- ---- the simple commands

-- `route FILE [--splits N] [--tolerance N]`
abbrev pub route_app : App
route_app =
    with_rule (with_rule (with_rule (new_app (codes "route")) (positional (codes "file")))
    (option (codes "splits") (codes "2000"))) (option (codes "tolerance") (codes "10"))

-- `plan LINE TRAIN SERVICE [--step N] [--splits N] [--tolerance N]`
abbrev pub plan_app : App
plan_app =
    with_rule (with_rule (with_rule (with_rule (with_rule (with_rule (new_app (codes "plan")) (positional (codes "line")))
    (positional (codes "train"))) (positional (codes "service")))
    (option (codes "step") (codes "100"))) (option (codes "splits") (codes "2000"))) (option (codes "tolerance") (codes "10"))

-- `session LINE TRAIN SERVICE EVENTS [--step N] [--splits N] [--tolerance N]`
abbrev pub session_app : App
session_app =
    with_rule (with_rule (with_rule (with_rule (with_rule (with_rule (with_rule (new_app (codes "session")) (positional (codes "line")))
    (positional (codes "train"))) (positional (codes "service"))) (positional (codes "events")))
    (option (codes "step") (codes "100"))) (option (codes "splits") (codes "2000"))) (option (codes "tolerance") (codes "10"))

-- `sample N [--splits N] [--tolerance N]`
abbrev pub sample_app : App
sample_app =
    with_rule (with_rule (with_rule (new_app (codes "sample")) (positional (codes "number")))
    (option (codes "splits") (codes "2000"))) (option (codes "tolerance") (codes "10"))

-- ---- the commands

-- `route` of the file of this name, or the usage where a number isn't one in its range
abbrev pub route_of_numbers : Text → Option ℕ → Option ℕ → Command
route_of_numbers file None tolerance = Usage
route_of_numbers file (Some splits) None = Usage
route_of_numbers file (Some splits) (Some tolerance) = Route file splits tolerance

-- the number of splits among the rows, 0 to 50,000
abbrev pub splits_in : List Row → Option ℕ
splits_in rows = number_in 0 50000 (value_of (codes "splits") rows)

-- `route`
abbrev pub route_of_rows : Option (List Row) → Command
route_of_rows None = Usage
route_of_rows (Some rows) = route_of_numbers (value_of (codes "file") rows) (splits_in rows) (tolerance_in rows)

-- `plan` of the files of these names, or the usage where a number isn't one in its range
abbrev pub plan_of_numbers : Text → Text → Text → Option ℕ → Option ℕ → Option ℕ → Command
plan_of_numbers line train service None splits tolerance = Usage
plan_of_numbers line train service (Some step) None tolerance = Usage
plan_of_numbers line train service (Some step) (Some splits) None = Usage
plan_of_numbers line train service (Some step) (Some splits) (Some tolerance) = Plan line train service step splits tolerance

-- `plan`
abbrev pub plan_of_rows : Option (List Row) → Command
plan_of_rows None = Usage
plan_of_rows (Some rows) =
    plan_of_numbers (value_of (codes "line") rows) (value_of (codes "train") rows) (value_of (codes "service") rows)
    (step_in rows) (splits_in rows) (tolerance_in rows)

-- `check` of these names, or the usage where there are none
abbrev pub check_of_names : Option CheckNames → Command
check_of_names None = Usage
check_of_names (Some (line, (train, (service, (report, step))))) = Check line train service report step

-- `session` of the files of these names, or the usage where a number isn't one in its range
abbrev pub session_of_numbers : Text → Text → Text → Text → Option ℕ → Option ℕ → Option ℕ → Command
session_of_numbers line train service events None splits tolerance = Usage
session_of_numbers line train service events (Some step) None tolerance = Usage
session_of_numbers line train service events (Some step) (Some splits) None = Usage
session_of_numbers line train service events (Some step) (Some splits) (Some tolerance) = Session line train service events step splits tolerance

-- `session`
abbrev pub session_of_rows : Option (List Row) → Command
session_of_rows None = Usage
session_of_rows (Some rows) =
    session_of_numbers (value_of (codes "line") rows) (value_of (codes "train") rows) (value_of (codes "service") rows)
    (value_of (codes "events") rows) (step_in rows) (splits_in rows) (tolerance_in rows)

-- `sample` of this number, or the usage where a number isn't one in its range
abbrev pub sample_of_numbers : Option ℕ → Option ℕ → Option ℕ → Command
sample_of_numbers None splits tolerance = Usage
sample_of_numbers (Some n) None tolerance = Usage
sample_of_numbers (Some n) (Some splits) None = Usage
sample_of_numbers (Some n) (Some splits) (Some tolerance) = Sample n splits tolerance

-- `sample`, of a number from 0 to 4,294,967,295
abbrev pub sample_of_rows : Option (List Row) → Command
sample_of_rows None = Usage
sample_of_rows (Some rows) = sample_of_numbers (number_in 0 4294967295 (value_of (codes "number") rows)) (splits_in rows) (tolerance_in rows)

-- the command of a list of words
abbrev pub command_of : List (List ℕ) → Command
command_of [] = Usage
command_of (word ∷ words) =
    if bytes_eq word (codes "route") then route_of_rows (taken route_app (word ∷ words))
    else if bytes_eq word (codes "plan") then plan_of_rows (taken plan_app (word ∷ words))
    else if bytes_eq word (codes "check") then check_of_names (check_of_rows (taken check_app (word ∷ words)))
    else if bytes_eq word (codes "session") then session_of_rows (taken session_app (word ∷ words))
    else if bytes_eq word (codes "sample") then sample_of_rows (taken sample_app (word ∷ words))
    else Usage

-- the command of words whose first word is this
abbrev pub command_by : FirstWord → List (List ℕ) → Command
command_by first_word.Route words = route_of_rows (taken route_app words)
command_by first_word.Plan words = plan_of_rows (taken plan_app words)
command_by first_word.Check words = check_of_names (check_of_rows (taken check_app words))
command_by first_word.Session words = session_of_rows (taken session_app words)
command_by first_word.Sample words = sample_of_rows (taken sample_app words)
command_by first_word.Other words = Usage
