-- What the words of a command line ask for.
use Rattle.std.specs.Prelude.{ℕ, List, [], ◌∷◌, Option, Some, None, codes, if◌then◌else◌}
use Rattle.std.specs.Str.{bytes_eq}
use Rattle.clap.specs.Words.{App, Row, Text, new_app, with_rule}
use Rattle.run_parts.specs.Words.{option, positional, step_in, taken, value_of}
use Rattle.sheet_run.specs.declared.command_line.Form.{Form}
use Rattle.sheet_run.specs.declared.command_line.Form.TheVariants as form

-- a sheet with its names, its grid and its form, or a word about usage
pub data Command : Type 0 where
  Usage : Command
  -- the drive of the report in the last file, over the line, by the train and for the service in the first three, with a grid of this step
  -- in metres, in this form
  Show : List ℕ → List ℕ → List ℕ → List ℕ → ℕ → Form → Command

-- `sheet LINE TRAIN SERVICE REPORT [--step N] [--form FORM]`
abbrev pub sheet_app : App
sheet_app =
    with_rule (with_rule (with_rule (with_rule (with_rule (with_rule (new_app (codes "sheet")) (positional (codes "line")))
    (positional (codes "train"))) (positional (codes "service"))) (positional (codes "report")))
    (option (codes "step") (codes "100"))) (option (codes "form") (codes "timetable"))

-- the form of this name
abbrev pub form_of : Text → Option Form
form_of text =
    if bytes_eq text (codes "timetable") then Some form.Timetable
    else if bytes_eq text (codes "points") then Some form.Points
    else if bytes_eq text (codes "svg") then Some form.Svg
    else None

-- a sheet of the files of these names, or the usage where the step isn't a number in its range or no form has this name
abbrev pub show_of : Text → Text → Text → Text → Option ℕ → Option Form → Command
show_of line train service report None shown = Usage
show_of line train service report (Some step) None = Usage
show_of line train service report (Some step) (Some shown) = Show line train service report step shown

-- what the arguments that clap takes ask for, or the usage where it refuses the words
abbrev pub show_of_rows : Option (List Row) → Command
show_of_rows None = Usage
show_of_rows (Some rows) =
    show_of (value_of (codes "line") rows) (value_of (codes "train") rows) (value_of (codes "service") rows) (value_of (codes "report") rows)
    (step_in rows) (form_of (value_of (codes "form") rows))

-- the words with the program's name in front, as clap takes them
abbrev pub with_program : List (List ℕ) → List (List ℕ)
with_program words = codes "sheet" ∷ words

-- what a list of words asks for
abbrev pub command_of : List (List ℕ) → Command
command_of words = show_of_rows (taken sheet_app (with_program words))
