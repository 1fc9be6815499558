-- What the text of a route means: its data, or the first line that is refused, and the rules of the data.
use Rattle.std.specs.Prelude.{filter, ℕ, ◌+◌, ◌*◌, ◌&&◌, ℤ, pos, negsuc, Bool, true, false, List, [], ◌∷◌, ◌++◌, Option, Some, None, Result, Ok, Err, if◌then◌else◌, nat_lt, is_none, ◌≡◌, ◌≤◌, length, drop, map, replicate, codes}
use Rattle.std.specs.Int.RustNames.{unsigned_abs}
use Rattle.std.specs.Str.{bytes_eq}
use Rattle.std.specs.Str.Lines.{lines}
use Rattle.route_file.specs.declared.fault.RouteFault.{RouteFault}
use Rattle.route_file.specs.declared.fault.RouteFault.TheVariants.{Form, Range, TooManySteps, NoMemory}
use Rattle.rail_specs.specs.declared.StepNumbers.{StepNumbers}
use Rattle.rail_specs.specs.declared.TrainNumbers.{TrainNumbers}
use Rattle.rail_base.specs.First.{first_in}
use Rattle.rail_base.specs.Lines.{line_at, is_line, begins, numbers_after, numbers_at, number, size}
use Rattle.rail_base.specs.Numbers.{is_within}
use Rattle.rail_specs.specs.Rules.{Rules}
use Rattle.rail_specs.specs.Step.{step_of_train}

-- a step of a route
pub record RouteStep : Type 0 where
  -- its length in metres, its gradient in 1/10 per mille and its speed limit in cm/s
  pub metres : ℕ
  pub gradient : ℤ
  pub limit : ℕ

-- what the text of a route says
pub record Route : Type 0 where
  -- the train: its masses and the coefficients of its resistance
  pub train : TrainNumbers
  -- its top speed in cm/s, and its forces in N at every speed up to that
  pub top : ℕ
  pub traction : ℕ
  pub brake : ℕ
  -- the latest time at the last point, in seconds
  pub latest : ℕ
  pub steps : List RouteStep

-- ---- the lines of the text, by their numbers from 1: a line is of its form, and then its numbers are in range

-- the fault of line n: it isn't of its form, or what it says is out of range
abbrev pub form_then_range : {X : Type 0} → ℕ → Option X → (X → Bool) → Option RouteFault
form_then_range n None in_range = Some (Form n)
form_then_range n (Some x) in_range = if in_range x then None else Some (Range n)

-- mass, inertia mass and the three coefficients of the resistance are in range
abbrev pub is_train : List ℤ → Bool
is_train ns =
    is_within (pos 1) (pos 100000) (number ns 0) && is_within (pos 1) (pos 120000) (number ns 1)
    && is_within (pos 0) (pos 10000000) (number ns 2) && is_within (pos 0) (pos 10000000) (number ns 3) && is_within (pos 0) (pos 10000000) (number ns 4)

-- the one number of a line is in range
abbrev pub is_one : ℕ → ℕ → List ℤ → Bool
is_one low high ns = is_within (pos low) (pos high) (number ns 0)

-- the length, gradient and limit of a step are in range
abbrev pub is_step : List ℤ → Bool
is_step ns =
    is_within (pos 1) (pos 1000) (number ns 0) && is_within (negsuc 999) (pos 1000) (number ns 1) && is_within (pos 1) (pos 12000) (number ns 2)

-- a step's numbers are in range, and the drag over the step is below the kinetic energy of a train with this inertia mass and coefficient c
abbrev pub is_light_step : ℕ → ℕ → List ℤ → Bool
is_light_step inertia c ns = is_step ns && nat_lt (c * unsigned_abs (number ns 0)) (10000 * inertia)

-- the numbers of the lines before the steps
abbrev pub train_line : List (List ℕ) → Option (List ℤ)
train_line ls = numbers_at ls 2 (codes "train ") 5

abbrev pub top_line : List (List ℕ) → Option (List ℤ)
top_line ls = numbers_at ls 3 (codes "top ") 1

abbrev pub traction_line : List (List ℕ) → Option (List ℤ)
traction_line ls = numbers_at ls 4 (codes "traction ") 1

abbrev pub brake_line : List (List ℕ) → Option (List ℤ)
brake_line ls = numbers_at ls 5 (codes "brake ") 1

abbrev pub latest_line : List (List ℕ) → Option (List ℤ)
latest_line ls = numbers_at ls 6 (codes "latest ") 1

-- the faults of the lines before the steps, one for each line in order; a line that is missing isn't of its form
abbrev pub heading_faults : List (List ℕ) → List (Option RouteFault)
heading_faults ls =
    (if is_line (codes "route 1") (line_at ls 1) then None else Some (Form 1))
    ∷ form_then_range 2 (train_line ls) is_train
    ∷ form_then_range 3 (top_line ls) (is_one 1 12000)
    ∷ form_then_range 4 (traction_line ls) (is_one 0 2000000)
    ∷ form_then_range 5 (brake_line ls) (is_one 0 2000000)
    ∷ form_then_range 6 (latest_line ls) (is_one 0 172800)
    ∷ []

-- a line begins as a step does
abbrev pub is_step_line : List ℕ → Bool
is_step_line line = begins (codes "step ") line

-- the fault of line n that begins as a step does: it is one too many, not of its form, or out of range
abbrev pub step_fault : ℕ → ℕ → ℕ → List ℕ → Option RouteFault
step_fault inertia c n line =
    if nat_lt 4006 n then Some TooManySteps else form_then_range n (numbers_after (codes "step ") 3 line) (is_light_step inertia c)

-- the fault of line n that is the end: there are fewer than two steps before it
abbrev pub end_fault : ℕ → Option RouteFault
end_fault n = if nat_lt n 9 then Some (Range n) else None

-- the faults of the lines from line n on, where they stand behind the end: no line does
abbrev pub behind_faults : ℕ → List (List ℕ) → List (Option RouteFault)
behind_faults n [] = []
behind_faults n (line ∷ ls) = Some (Form n) ∷ []

-- the faults of the lines from line n on, where the steps begin at line 7: they are steps, and then the end; a line that is missing
-- isn't of its form
abbrev pub entry_faults : ℕ → ℕ → ℕ → List (List ℕ) → List (Option RouteFault)
entry_faults inertia c n [] = Some (Form n) ∷ []
entry_faults inertia c n (line ∷ ls) =
    if is_step_line line then step_fault inertia c n line ∷ entry_faults inertia c (n + 1) ls
    else if bytes_eq line (codes "end") then end_fault n ∷ behind_faults (n + 1) ls
    else Some (Form n) ∷ []

-- ---- how many rows of steps are made while the lines are read, where what was made is counted

-- the numbers of a step are there and in range, but for the drag
abbrev pub is_step_of : Option (List ℤ) → Bool
is_step_of None = false
is_step_of (Some ns) = is_step ns

-- of line n that begins as a step does: one, where it isn't one too many, is of its form, and its numbers are in range. Where the drag
-- is too great, the row is refused when it is made.
abbrev pub row_count : ℕ → List ℕ → ℕ
row_count n line = if nat_lt 4006 n then 0 else (if is_step_of (numbers_after (codes "step ") 3 line) then 1 else 0)

-- of the lines from line n on: of each step line before the first line with a fault, and of that line itself where only its drag is amiss
abbrev pub row_counts : ℕ → ℕ → ℕ → List (List ℕ) → ℕ
row_counts inertia c n [] = 0
row_counts inertia c n (line ∷ ls) =
    if is_step_line line then row_count n line + (if is_none (step_fault inertia c n line) then row_counts inertia c (n + 1) ls else 0)
    else 0

-- of all lines: none where a line before the steps has a fault
abbrev pub rows_on : List (List ℕ) → ℕ
rows_on ls =
    if is_none (first_in (heading_faults ls)) then row_counts (size (train_line ls) 1) (size (train_line ls) 4) 7 (drop 6 ls) else 0

-- of a text
abbrev pub rows_made : List ℕ → ℕ
rows_made text = rows_on (lines text)

-- the counter shows the rows that were made, whatever the answer is; where memory runs out, no more than those
abbrev pub CountsRows : {A : Type 0} → Result A RouteFault → ℕ → ℕ → ℕ → Type 0
CountsRows (Ok x) rows old new = new ≡ old + rows
CountsRows (Err NoMemory) rows old new = (old ≤ new) × (new ≤ old + rows)
CountsRows (Err e) rows old new = new ≡ old + rows

-- the faults of all lines, in order
abbrev pub line_faults : List (List ℕ) → List (Option RouteFault)
line_faults ls = heading_faults ls ++ entry_faults (size (train_line ls) 1) (size (train_line ls) 4) 7 (drop 6 ls)

-- ---- what lines without a fault say

-- the step that three numbers are
abbrev pub step_of : Option (List ℤ) → RouteStep
step_of None = record { metres = 0; gradient = pos 0; limit = 0 }
step_of (Some ns) = record { metres = unsigned_abs (number ns 0); gradient = number ns 1; limit = unsigned_abs (number ns 2) }

-- the step on a line
abbrev pub step_on : List ℕ → RouteStep
step_on line = step_of (numbers_after (codes "step ") 3 line)

-- the steps on the lines that begin as one does
abbrev pub steps_on : List (List ℕ) → List RouteStep
steps_on ls = map step_on (filter is_step_line ls)

-- the train of five numbers
abbrev pub train_numbers : Option (List ℤ) → TrainNumbers
train_numbers ns = record { mass = size ns 0; inertia = size ns 1; a = size ns 2; b = size ns 3; c = size ns 4 }

-- the route on lines
abbrev pub route_in : List (List ℕ) → Route
route_in ls = record {
  train = train_numbers (train_line ls);
  top = size (top_line ls) 0;
  traction = size (traction_line ls) 0;
  brake = size (brake_line ls) 0;
  latest = size (latest_line ls) 0;
  steps = steps_on (drop 6 ls);
}

-- a value, or the fault that stands before it
abbrev pub unless : {X : Type 0} → Option RouteFault → X → Result X RouteFault
unless None x = Ok x
unless (Some fault) x = Err fault

-- what the text of a route says, or the fault of its first line that has one
abbrev pub route_of : List ℕ → Result Route RouteFault
route_of text = unless (first_in (line_faults (lines text))) (route_in (lines text))

-- ---- the rules of a route

-- the numbers of a step of a route with this train
abbrev pub step_numbers : TrainNumbers → RouteStep → StepNumbers
step_numbers t s = step_of_train t s.metres s.gradient

-- the places at the ends of steps of these lengths, where the first of them begins at this place
abbrev pub ends_from : ℕ → List ℕ → List ℕ
ends_from place [] = []
ends_from place (x ∷ xs) = (place + x) ∷ ends_from (place + x) xs

-- the rules of a route: from a standstill at place 0, with constant forces, to a stop at the last point, which has the latest time
abbrev pub rules_of_route : Route → Rules
rules_of_route r =
    let n = length r.steps in
    record {
      start = 0;
      top = r.top;
      traction = replicate (r.top + 1) r.traction;
      brake = replicate (r.top + 1) r.brake;
      train_length = 0;
      steps = map (step_numbers r.train) r.steps;
      limits = map (λ s. s.limit) r.steps;
      places = 0 ∷ ends_from 0 (map (λ s. s.metres) r.steps);
      stops = replicate n false ++ true ∷ [];
      dwells = replicate (n + 1) 0;
      timings = record { point = n; latest = pos (1000 * r.latest) } ∷ [];
    }

-- the rules of a route that was read, or the refusal
abbrev pub rules_of_read : Result Route RouteFault → Result Rules RouteFault
rules_of_read (Ok route) = Ok (rules_of_route route)
rules_of_read (Err fault) = Err fault

-- the rules that the text of a route gives, or its refusal
abbrev pub rules_of_text : List ℕ → Result Rules RouteFault
rules_of_text text = rules_of_read (route_of text)
