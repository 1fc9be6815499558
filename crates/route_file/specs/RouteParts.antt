-- What the parts of a route's text give, as they are read one after another.
use Rattle.std.specs.Prelude.{ℕ, ℤ, ◌+◌, ◌*◌, ◌&&◌, ◌≡◌, ◌≤◌, true, false, List, [], ◌∷◌, ◌++◌, Option, Some, None, Result, Ok, Err, map, codes, pos, negsuc, length, replicate, if◌then◌else◌}
use Rattle.std.specs.Int.RustNames.{unsigned_abs}
use Rattle.std.specs.Str.{bytes_eq}
use Rattle.route_file.specs.declared.fault.RouteFault.{RouteFault}
use Rattle.route_file.specs.declared.fault.RouteFault.TheVariants.{Form, NoMemory}
use Rattle.rail_specs.specs.declared.StepNumbers.{StepNumbers}
use Rattle.rail_specs.specs.declared.TrainNumbers.{TrainNumbers}
use Rattle.rail_base.specs.Lines.{size}
use Rattle.rail_base.specs.Numbers.{is_within}
use Rattle.route_file.specs.Route.{RouteStep, train_line, top_line, traction_line, brake_line, latest_line, train_numbers, is_step_line, step_on, step_fault, end_fault, row_count, step_numbers, ends_from}
use Rattle.rail_specs.specs.Rules.{Rules}
use Rattle.rail_specs.specs.Step.{step_of_train, IsTrainInRange}
use Rattle.route_file.specs.declared.data.Heading.{Heading}
use Rattle.route_file.specs.declared.data.StepLine.{StepLine}
use Rattle.route_file.specs.declared.data.StepLists.{StepLists}
use Rattle.route_file.specs.declared.data.Entry.{Entry}
use Rattle.route_file.specs.declared.data.Entry.TheVariants as entry

-- what the lines before the steps say
abbrev pub heading_of : List (List ℕ) → Heading
heading_of ls = record {
  train = train_numbers (train_line ls);
  top = size (top_line ls) 0;
  traction = size (traction_line ls) 0;
  brake = size (brake_line ls) 0;
  latest = size (latest_line ls) 0;
}

-- what they say is within the units' ranges
pub record IsHeading (h : Heading) : Type 0 where
  pub train : IsTrainInRange h.train
  pub top : (1 ≤ h.top) × (h.top ≤ 12000)
  pub traction : h.traction ≤ 2000000
  pub brake : h.brake ≤ 2000000
  pub latest : h.latest ≤ 172800

-- the numbers of a step of the train, where length and gradient are in range
abbrev pub step_in_range : TrainNumbers → ℤ → ℤ → Option StepNumbers
step_in_range t metres gradient =
    if is_within (pos 1) (pos 1000) metres && is_within (negsuc 999) (pos 1000) gradient then Some (step_of_train t (unsigned_abs metres) gradient)
    else None

-- a step's row and limit
abbrev pub step_line : TrainNumbers → RouteStep → StepLine
step_line t s = record { row = step_numbers t s; limit = s.limit }

-- the fault of line n, behind the heading and before the end
abbrev pub entry_fault : ℕ → ℕ → ℕ → List ℕ → Option RouteFault
entry_fault inertia c n line =
    if is_step_line line then step_fault inertia c n line
    else if bytes_eq line (codes "end") then end_fault n
    else Some (Form n)

-- what line n says, behind the heading and before the end: a step, the end, or its fault
abbrev pub ReadsEntry : Result Entry RouteFault → TrainNumbers → ℕ → List ℕ → Type 0
ReadsEntry (Ok (entry.Step s)) t n line =
    (is_step_line line ≡ true) × (step_fault t.inertia t.c n line ≡ None) × (s ≡ step_line t (step_on line))
ReadsEntry (Ok entry.End) t n line = (is_step_line line ≡ false) × (bytes_eq line (codes "end") ≡ true) × (end_fault n ≡ None)
ReadsEntry (Err e) t n line = entry_fault t.inertia t.c n line ≡ Some e

-- how many rows are made of line n behind the heading
abbrev pub entry_rows : ℕ → List ℕ → ℕ
entry_rows n line = if is_step_line line then row_count n line else 0

-- a step counts one, the end none, and a line with a fault as many as are made of it
abbrev pub CountsEntry : Result Entry RouteFault → ℕ → List ℕ → ℕ → ℕ → Type 0
CountsEntry (Ok (entry.Step s)) n line old new = new ≡ old + 1
CountsEntry (Ok entry.End) n line old new = new ≡ old
CountsEntry (Err e) n line old new = new ≡ old + entry_rows n line

-- no step yet
pub record IsEmpty (lists : StepLists) : Type 0 where
  pub rows : lists.rows.items ≡ []
  pub limits : lists.limits.items ≡ []
  pub places : lists.places.items ≡ 0 ∷ []
  pub end : lists.end ≡ 0

-- the lists have one step more
pub record AppendsStep (old new : StepLists) (row : StepNumbers) (limit : ℕ) : Type 0 where
  pub rows : new.rows.items ≡ old.rows.items ++ row ∷ []
  pub limits : new.limits.items ≡ old.limits.items ++ limit ∷ []
  pub places : new.places.items ≡ old.places.items ++ (old.end + row.metres) ∷ []
  pub end : new.end ≡ old.end + row.metres

-- the lists have these steps up to those that are left
pub record HasSteps (t : TrainNumbers) (all left : List RouteStep) (lists : StepLists) : Type 0 where
  pub rows : map (step_numbers t) all ≡ lists.rows.items ++ map (step_numbers t) left
  pub limits : map (λ s. s.limit) all ≡ lists.limits.items ++ map (λ s. s.limit) left
  pub places : 0 ∷ ends_from 0 (map (λ s. s.metres) all) ≡ lists.places.items ++ ends_from lists.end (map (λ s. s.metres) left)

-- the answer is a refusal for that fault, or none where there is none; memory may run out
abbrev pub AnswersFault : {A : Type 0} → Result A RouteFault → Option RouteFault → Type 0
AnswersFault (Ok x) fault = fault ≡ None
AnswersFault (Err NoMemory) fault = Unit {0}
AnswersFault (Err e) fault = fault ≡ Some e

-- the rules of a heading and its steps
abbrev pub rules_with : Heading → StepLists → Rules
rules_with h lists =
    let n = length lists.rows.items in
    record {
      start = 0;
      top = h.top;
      traction = replicate (h.top + 1) h.traction;
      brake = replicate (h.top + 1) h.brake;
      train_length = 0;
      steps = lists.rows.items;
      limits = lists.limits.items;
      places = lists.places.items;
      stops = replicate n false ++ true ∷ [];
      dwells = replicate (n + 1) 0;
      timings = record { point = n; latest = pos (1000 * h.latest) } ∷ [];
    }
