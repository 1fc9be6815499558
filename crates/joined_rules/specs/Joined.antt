-- The rules that a line, a train, a service and a setup give together.
use Rattle.std.specs.Prelude.{ℕ, ◌+◌, ◌-◌, ◌*◌, ◌<◌, ◌≤◌, ◌≡◌, ◌≢◌, ◌==◌, ◌||◌, ◌⊎◌, ◌++◌, ℤ, pos, ◌-ℤ◌, ◌≤ℤ◌, Bool, true, List, Option, Some, None, Result, Ok, Err, is_some, IfSome, if◌then◌else◌, length, map, slice_index, slice_index_or}
use Rattle.rail_specs.specs.declared.StepNumbers.{StepNumbers}
use Rattle.rail_specs.specs.declared.Timing.{Timing}
use Rattle.rail_specs.specs.Grid.{IsGrid}
use Rattle.rail_specs.specs.Rules.{Rules, is_stop, step_at, no_timing}
use Rattle.rail_specs.specs.Step.{train_of_step}
use Rattle.line_file.specs.declared.sections.Section.{Section}
use Rattle.line_file.specs.declared.calls.Call.{Call}
use Rattle.line_file.specs.declared.line.Line.{Line}
use Rattle.line_file.specs.declared.service.Service.{Service}
use Rattle.line_file.specs.LineText.{first_from, last_to}
use Rattle.line_file.specs.ServiceText.{last_call}
use Rattle.line_file.specs.Shape.{section_at, call_at}
use Rattle.train_file.specs.declared.train.Train.{Train}
use Rattle.train_file.specs.Shape.{numbers_of}
use Rattle.joined_rules.specs.declared.setup.Stretch.{Stretch}
use Rattle.joined_rules.specs.declared.setup.Setup.{Setup}
use Rattle.distance_grid.specs.Answer.{IsShortGrid, IsLongGrid}
use Rattle.joined_rules.specs.declared.fault.RulesFault.{RulesFault}
use Rattle.joined_rules.specs.declared.fault.RulesFault.TheVariants as fault
use Rattle.rule_parts.specs.Shaped.{Rises}

-- what stands past the last stretch
abbrev pub no_stretch : Stretch
no_stretch = record { from = 0; to = 0; limit = 0 }

-- the stretch of an index
abbrev pub stretch_at : List Stretch → ℕ → Stretch
stretch_at stretches k = slice_index_or stretches k no_stretch

-- the place of the first call
abbrev pub first_place : List Call → ℕ
first_place calls = (call_at calls 0).place

-- the place of the last call
abbrev pub last_place : List Call → ℕ
last_place calls = (last_call calls).place

-- a stretch with a length and a limit
pub record IsStretch (s : Stretch) : Type 0 where
  pub long : s.from < s.to
  pub limit : (1 ≤ s.limit) × (s.limit ≤ 12000)

-- a setup's numbers are in their ranges, and its place is from the first call's to below the last call's
pub record IsSetup (service : Service) (setup : Setup) : Type 0 where
  pub step : (10 ≤ setup.step) × (setup.step ≤ 1000)
  pub place : (first_place service.calls ≤ setup.place) × (setup.place < last_place service.calls)
  pub speed : setup.speed ≤ 12000
  pub clock : setup.clock ≤ 172800
  pub stretches : (k : ℕ) → k < length setup.stretches → IsStretch (stretch_at setup.stretches k)

-- the places that the grid includes where they lie between its ends: those of the calls, and the ends of the sections of both kinds
-- (each section begins where the one before it ends)
abbrev pub marks_of : Line → Service → List ℕ
marks_of line service =
    (map (λ c. c.place) service.calls ++ map (λ s. s.to) line.limits) ++ map (λ s. s.to) line.gradients

-- the places of the grid from the setup's place to the last call's
abbrev pub AreGridPlaces : Line → Service → Setup → List ℕ → Type 0
AreGridPlaces line service setup places = IsGrid (marks_of line service) setup.step setup.place (last_place service.calls) places

-- ---- per step

-- the step from s to e lies in a section, and v is the section's value
abbrev pub LiesIn : List Section → ℕ → ℕ → ℤ → Type 0
LiesIn sections s e v =
    (k : ℕ) × (k < length sections) × ((section_at sections k).from ≤ s) × (e ≤ (section_at sections k).to)
    × (v ≡ (section_at sections k).value)

-- a stretch from f to t meets a train of so many metres on the step from s to e: the stretch begins before the step's end, and the train's
-- tail hasn't left it when the head is at the step's start
abbrev pub Meets : ℕ → ℕ → ℕ → ℕ → ℕ → Type 0
Meets metres f t s e = (f < e) × (s < t + metres)

-- a section meets the train on the step
abbrev pub MeetsSection : ℕ → Section → ℕ → ℕ → Type 0
MeetsSection metres section s e = Meets metres section.from section.to s e

-- a stretch with a lower limit meets the train on the step
abbrev pub MeetsStretch : ℕ → Stretch → ℕ → ℕ → Type 0
MeetsStretch metres stretch s e = Meets metres stretch.from stretch.to s e

-- v is the least limit of the sections and of the stretches that meet a train of so many metres on the step from s to e, also of those
-- that end before the place from which the train goes on
pub record IsLeastLimit (sections : List Section) (stretches : List Stretch) (metres s e v : ℕ) : Type 0 where
  pub of_sections : (k : ℕ) → k < length sections → MeetsSection metres (section_at sections k) s e → pos v ≤ℤ (section_at sections k).value
  pub of_stretches : (k : ℕ) → k < length stretches → MeetsStretch metres (stretch_at stretches k) s e → v ≤ (stretch_at stretches k).limit
  pub reached :
      ((k : ℕ) × (k < length sections) × MeetsSection metres (section_at sections k) s e × (pos v ≡ (section_at sections k).value))
      ⊎ ((k : ℕ) × (k < length stretches) × MeetsStretch metres (stretch_at stretches k) s e × (v ≡ (stretch_at stretches k).limit))

-- the numbers of the step from s to e of a train: the train's own, the step's length, and the gradient of the section in which it lies
pub record IsStepOf (train : Train) (gradients : List Section) (s e : ℕ) (n : StepNumbers) : Type 0 where
  pub train_is : train_of_step n ≡ numbers_of train
  pub metres : e ≡ s + n.metres
  pub gradient : LiesIn gradients s e n.gradient

-- ---- per point

-- which call stands at point k: the index of the call, or the number of calls where none does, and at the first point
pub record IsCallAt (calls : List Call) (places : List ℕ) (k j : ℕ) : Type 0 where
  pub call : j < length calls → (1 ≤ k) × ((call_at calls j).place ≡ slice_index places k)
  pub none : length calls ≤ j → 1 ≤ k → (i : ℕ) → i < length calls → (call_at calls i).place ≢ slice_index places k
  pub index : j ≤ length calls

-- a call is a stop where it has a dwell or is the last
abbrev pub is_stop_call : List Call → ℕ → Bool
is_stop_call calls j = (j + 1 == length calls) || is_some (call_at calls j).dwell

-- seconds as milliseconds, where they are given
abbrev pub milliseconds : Option ℕ → ℕ
milliseconds None = 0
milliseconds (Some s) = 1000 * s

-- how long the train stands at a call, ms; the dwell of the last isn't used
abbrev pub dwell_of : List Call → ℕ → ℕ
dwell_of calls j = if j + 1 == length calls then 0 else milliseconds (call_at calls j).dwell

-- the stop and the dwell of a point are those of the call that stands there
pub record IsPointOf (calls : List Call) (places : List ℕ) (k : ℕ) (stop : Bool) (dwell : ℕ) : Type 0 where
  pub at : ℕ
  pub call : IsCallAt calls places k at
  pub stop_is : stop ≡ is_stop_call calls at
  pub dwell_is : dwell ≡ dwell_of calls at

-- ---- latest times

-- a latest time in s is t ms from the clock on
abbrev pub IsLatest : Option ℕ → ℕ → ℤ → Type 0
IsLatest None clock t = ⊥
IsLatest (Some s) clock t = t ≡ pos (1000 * s) -ℤ pos (1000 * clock)

-- a timing point stands at a call after the start that has a latest time
abbrev pub IsTimingOf : List Call → ℕ → ℕ → List ℕ → Timing → Type 0
IsTimingOf calls start clock places t =
    (j : ℕ) × (j < length calls) × (start < (call_at calls j).place) × (slice_index places t.point ≡ (call_at calls j).place)
    × IsLatest (call_at calls j).latest clock t.latest

-- the timing points in order, one for each call after the start that has a latest time
pub record AreTimings (calls : List Call) (start clock : ℕ) (places : List ℕ) (timings : List Timing) : Type 0 where
  pub rise : Rises timings
  pub each : (h : ℕ) → h < length timings → IsTimingOf calls start clock places (slice_index_or timings h no_timing)
  pub every : (j : ℕ) → j < length calls → start < (call_at calls j).place →
      IfSome (call_at calls j).latest (λ _. (h : ℕ) × (h < length timings) × (slice_index places (slice_index_or timings h no_timing).point ≡ (call_at calls j).place))

-- ---- the rules

-- the rules of a train that keeps to a service on a line from a setup on
pub record IsJoined (line : Line) (train : Train) (service : Service) (setup : Setup) (r : Rules) : Type 0 where
  pub grid : AreGridPlaces line service setup r.places
  pub start_is : r.start ≡ setup.speed
  pub top_is : r.top + 1 ≡ length train.traction
  pub traction_is : r.traction ≡ train.traction
  pub brake_is : r.brake ≡ train.brake
  pub length_is : r.train_length ≡ train.length
  pub steps_are : length r.places ≡ length r.steps + 1
  pub each_step : (i : ℕ) → i < length r.steps →
      IsStepOf train line.gradients (slice_index r.places i) (slice_index r.places (i + 1)) (step_at r i)
  pub limits_are : length r.limits ≡ length r.steps
  pub each_limit : (i : ℕ) → i < length r.steps →
      IsLeastLimit line.limits setup.stretches train.length (slice_index r.places i) (slice_index r.places (i + 1)) (slice_index r.limits i)
  pub stops_are : length r.stops ≡ length r.places
  pub dwells_are : length r.dwells ≡ length r.places
  pub each_point : (k : ℕ) → k < length r.places → IsPointOf service.calls r.places k (is_stop r k) (slice_index r.dwells k)
  pub timings_are : AreTimings service.calls setup.place setup.clock r.places r.timings

-- ---- refusals

-- i is the first, counted from 0, of so many for which this holds
pub record IsFirst (P : ℕ → Type 0) (count i : ℕ) : Type 0 where
  pub within : i < count
  pub holds : P i
  pub before : (j : ℕ) → j < i → P j → ⊥

-- it holds for none of so many
abbrev pub ForNone : (ℕ → Type 0) → ℕ → Type 0
ForNone P count = (j : ℕ) → j < count → P j → ⊥

-- call j isn't on the line
abbrev pub IsOutside : Line → List Call → ℕ → Type 0
IsOutside line calls j = ((call_at calls j).place < first_from line.limits) ⊎ (last_to line.limits < (call_at calls j).place)

-- a call that is a stop stands at this place
abbrev pub HasStop : List Call → ℕ → Type 0
HasStop calls p = (i : ℕ) × (i < length calls) × ((call_at calls i).place ≡ p) × (is_stop_call calls i ≡ true)

-- call j after the start is a stop at the grid point next after another stop's, or next after the start where the train stands there
abbrev pub IsTooClose : List Call → ℕ → List ℕ → ℕ → Type 0
IsTooClose calls speed places j =
    (is_stop_call calls j ≡ true) × (k : ℕ) × (k + 1 < length places) × (slice_index places (k + 1) ≡ (call_at calls j).place)
    × (((k ≡ 0) × (speed ≡ 0)) ⊎ ((1 ≤ k) × HasStop calls (slice_index places k)))

-- the drag over step i is too great
abbrev pub IsTooGreat : Train → List ℕ → ℕ → Type 0
IsTooGreat train places i = 10000 * train.inertia ≤ train.c * (slice_index places (i + 1) - slice_index places i)

-- the calls lie on the line, these are the places of the grid, no more than 4,001, and no stop is too close to another
pub record IsAccepted (line : Line) (service : Service) (setup : Setup) (places : List ℕ) : Type 0 where
  pub on_line : ForNone (IsOutside line service.calls) (length service.calls)
  pub grid : IsShortGrid (marks_of line service) setup.step setup.place (last_place service.calls) places
  pub apart : ForNone (IsTooClose service.calls setup.speed places) (length service.calls)

-- the first refusal of the calls and the places; memory may run out
abbrev pub RefusesPlaces : Line → Service → Setup → RulesFault → Type 0
RefusesPlaces line service setup (fault.Outside n) = (1 ≤ n) × IsFirst (IsOutside line service.calls) (length service.calls) (n - 1)
RefusesPlaces line service setup fault.TooManySteps =
    ForNone (IsOutside line service.calls) (length service.calls)
    × IsLongGrid (marks_of line service) setup.step setup.place (last_place service.calls)
RefusesPlaces line service setup (fault.StopsTooClose n) =
    ForNone (IsOutside line service.calls) (length service.calls) × (places : List ℕ)
    × IsShortGrid (marks_of line service) setup.step setup.place (last_place service.calls) places
    × (1 ≤ n) × IsFirst (IsTooClose service.calls setup.speed places) (length service.calls) (n - 1)
RefusesPlaces line service setup (fault.DragTooGreat i) = ⊥
RefusesPlaces line service setup fault.NoMemory = Unit {0}

-- the first refusal: that of the calls and the places, or the first step with too great a drag; memory may run out
abbrev pub Refuses : Line → Train → Service → Setup → RulesFault → Type 0
Refuses line train service setup (fault.DragTooGreat i) =
    (places : List ℕ) × IsAccepted line service setup places × IsFirst (IsTooGreat train places) (length places - 1) i
Refuses line train service setup (fault.Outside n) = RefusesPlaces line service setup (fault.Outside n)
Refuses line train service setup fault.TooManySteps = RefusesPlaces line service setup fault.TooManySteps
Refuses line train service setup (fault.StopsTooClose n) = RefusesPlaces line service setup (fault.StopsTooClose n)
Refuses line train service setup fault.NoMemory = Unit {0}

-- the counter shows the rows that were made: one for each step on `Ok`, none where the calls or the places are refused, and up to the row
-- that is refused, that row too; where memory runs out, none, or no more than the steps
abbrev pub CountsRows : {A : Type 0} → Result A RulesFault → Line → Service → Setup → ℕ → ℕ → Type 0
CountsRows (Ok x) line service setup old new = (places : List ℕ) × IsAccepted line service setup places × (new + 1 ≡ old + length places)
CountsRows (Err (fault.DragTooGreat i)) line service setup old new = new ≡ old + (i + 1)
CountsRows (Err (fault.Outside n)) line service setup old new = new ≡ old
CountsRows (Err fault.TooManySteps) line service setup old new = new ≡ old
CountsRows (Err (fault.StopsTooClose n)) line service setup old new = new ≡ old
CountsRows (Err fault.NoMemory) line service setup old new =
    (old ≤ new) × ((new ≡ old) ⊎ ((places : List ℕ) × IsAccepted line service setup places × (new + 1 ≤ old + length places)))

-- the joined rules, where nothing refuses them
pub record Joins (line : Line) (train : Train) (service : Service) (setup : Setup) (r : Rules) : Type 0 where
  pub joined : IsJoined line train service setup r
  pub accepted : IsAccepted line service setup r.places
  pub light : ForNone (IsTooGreat train r.places) (length r.steps)
