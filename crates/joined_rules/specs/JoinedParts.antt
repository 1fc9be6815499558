-- What the parts of the joined rules are, as they are made one after another.
use Rattle.std.specs.Prelude.{ℕ, ◌+◌, ◌-◌, ◌<◌, ◌≤◌, ◌≡◌, ◌⊎◌, ℤ, pos, ◌≤ℤ◌, Bool, true, false, Result, Ok, Err, List, Contains, length, slice_index, slice_index_or}
use Rattle.std.specs.Int.RustNames.{unsigned_abs}
use Rattle.rail_specs.specs.declared.StepNumbers.{StepNumbers}
use Rattle.rail_specs.specs.Rules.{no_step}
use Rattle.rail_specs.specs.Step.{step_of_train}
use Rattle.line_file.specs.declared.sections.Section.{Section}
use Rattle.line_file.specs.declared.calls.Call.{Call}
use Rattle.line_file.specs.declared.line.Line.{Line}
use Rattle.line_file.specs.declared.service.Service.{Service}
use Rattle.line_file.specs.LineText.{first_from, last_to}
use Rattle.line_file.specs.Shape.{section_at, call_at}
use Rattle.line_file.specs.ServiceText.{latest_count}
use Rattle.train_file.specs.declared.train.Train.{Train}
use Rattle.train_file.specs.Shape.{numbers_of}
use Rattle.distance_grid.specs.Answer.{IsLongGrid}
use Rattle.joined_rules.specs.declared.setup.Stretch.{Stretch}
use Rattle.joined_rules.specs.declared.fault.RulesFault.{RulesFault}
use Rattle.joined_rules.specs.declared.fault.RulesFault.TheVariants as fault
use Rattle.joined_rules.specs.declared.setup.Setup.{Setup}
use Rattle.joined_rules.specs.declared.layout.Layout.{Layout}
use Rattle.joined_rules.specs.declared.course.Course.{Course}
use Rattle.joined_rules.specs.declared.times.Times.{Times}
use Rattle.joined_rules.specs.Joined.{MeetsStretch, LiesIn, IsCallAt, IsTooGreat, IsFirst, IsAccepted, IsStepOf, IsLeastLimit, IsTooClose, is_stop_call, dwell_of, AreTimings, marks_of, last_place}

-- each place lies above the one before it
abbrev pub Rising : List ℕ → Type 0
Rising places = (k : ℕ) → k + 1 < length places → slice_index places k < slice_index places (k + 1)

-- each section begins where the one before it ends
abbrev pub Follow : List Section → Type 0
Follow sections = (k : ℕ) → k + 1 < length sections → (section_at sections (k + 1)).from ≡ (section_at sections k).to

-- the places rise within the sections, and no step between two of them goes over the end of a section
pub record AreCut (sections : List Section) (places : List ℕ) : Type 0 where
  pub follow : Follow sections
  pub some : 0 < length sections
  pub small : (k : ℕ) → k < length sections → unsigned_abs (section_at sections k).value ≤ 12000
  pub rising : Rising places
  pub begun : first_from sections ≤ slice_index places 0
  pub ended : (i : ℕ) → i + 1 < length places → slice_index places i < last_to sections
  pub whole : (k i : ℕ) → k < length sections → i + 1 < length places → slice_index places i < (section_at sections k).to →
      slice_index places (i + 1) ≤ (section_at sections k).to

-- for each step the value of the section in which it lies
pub record AreValues (sections : List Section) (places : List ℕ) (values : List ℤ) : Type 0 where
  pub count : length values + 1 ≡ length places
  pub each : (i : ℕ) → i < length values →
      LiesIn sections (slice_index places i) (slice_index places (i + 1)) (slice_index_or values i (pos 0))

-- the places rise along the sections, from where these begin to where they end
pub record LieAlong (sections : List Section) (places : List ℕ) : Type 0 where
  pub some : 0 < length sections
  pub rising : Rising places
  pub begun : first_from sections ≤ slice_index places 0
  pub ended : (i : ℕ) → i + 1 < length places → slice_index places i < last_to sections

-- v is the least of a limit and, where a stretch meets a train of so many metres on the step from s to e, of that of the stretch
pub record IsLowered (stretch : Stretch) (metres s e limit v : ℕ) : Type 0 where
  pub below : v ≤ limit
  pub under : MeetsStretch metres stretch s e → v ≤ stretch.limit
  pub reached : (v ≡ limit) ⊎ (MeetsStretch metres stretch s e × (v ≡ stretch.limit))

-- v is the least limit of the sections from that of index first on that begin before the end of a step
pub record IsLeastFrom (sections : List Section) (first e v : ℕ) : Type 0 where
  pub below : (k : ℕ) → first ≤ k → k < length sections → (section_at sections k).from < e → pos v ≤ℤ (section_at sections k).value
  pub reached : (k : ℕ) × (first ≤ k) × (k < length sections) × ((section_at sections k).from < e) × (pos v ≡ (section_at sections k).value)

-- the section of index k is the first whose end the tail of a train of so many metres hasn't left when its head is at a place
pub record IsFirstUnder (sections : List Section) (metres place k : ℕ) : Type 0 where
  pub there : k < length sections
  pub under : place < (section_at sections k).to + metres
  pub behind : (j : ℕ) → j < k → (section_at sections j).to + metres ≤ place

-- for each step the least limit of the sections and stretches that meet it
pub record AreLimits (sections : List Section) (stretches : List Stretch) (metres : ℕ) (places limits : List ℕ) : Type 0 where
  pub count : length limits + 1 ≡ length places
  pub each : (i : ℕ) → i < length limits →
      IsLeastLimit sections stretches metres (slice_index places i) (slice_index places (i + 1)) (slice_index limits i)

-- calls lie at rising places
abbrev pub CallsRise : List Call → Type 0
CallsRise calls = (k : ℕ) → k + 1 < length calls → (call_at calls k).place < (call_at calls (k + 1)).place

-- each call behind the first place stands at one of the places
abbrev pub HaveCallPlaces : List ℕ → List Call → Type 0
HaveCallPlaces places calls = (j : ℕ) → j < length calls → slice_index places 0 < (call_at calls j).place → Contains places (call_at calls j).place

-- for each point which call stands there
pub record AreCallsAt (calls : List Call) (places visits : List ℕ) : Type 0 where
  pub count : length visits ≡ length places
  pub each : (k : ℕ) → k < length visits → IsCallAt calls places k (slice_index visits k)

-- point k + 1 is a stop, and so is point k, or it is the first and the train stands there
abbrev pub IsCloseStop : List Bool → ℕ → ℕ → Type 0
IsCloseStop stops start k = (slice_index_or stops (k + 1) false ≡ true) × ((slice_index_or stops k false ≡ true) ⊎ ((k ≡ 0) × (start ≡ 0)))

-- none of the first n points is followed by a stop too close
abbrev pub NoneClose : List Bool → ℕ → ℕ → Type 0
NoneClose stops start n = (k : ℕ) → k < n → IsCloseStop stops start k → ⊥

-- for each step its numbers, none with too great a drag
pub record AreRows (train : Train) (gradients : List ℤ) (places : List ℕ) (rows : List StepNumbers) : Type 0 where
  pub count : length rows ≡ length gradients
  pub each : (i : ℕ) → i < length rows →
      slice_index_or rows i no_step ≡ step_of_train (numbers_of train) (slice_index places (i + 1) - slice_index places i) (slice_index_or gradients i (pos 0))
  pub light : (i : ℕ) → i < length rows → IsTooGreat train places i → ⊥

-- the refusal is for the first step with too great a drag; memory may run out
abbrev pub RefusesRows : Train → List ℕ → ℕ → RulesFault → Type 0
RefusesRows train places count (fault.DragTooGreat i) = IsFirst (IsTooGreat train places) count i
RefusesRows train places count fault.NoMemory = Unit {0}
RefusesRows train places count (fault.Outside n) = ⊥
RefusesRows train places count fault.TooManySteps = ⊥
RefusesRows train places count (fault.StopsTooClose n) = ⊥

-- the counter shows the rows that were made: each of so many, or those up to the one that is refused, that one too; where memory runs
-- out, no more than all
abbrev pub CountsSteps : {A : Type 0} → Result A RulesFault → ℕ → ℕ → ℕ → Type 0
CountsSteps (Ok x) count old new = new ≡ old + count
CountsSteps (Err (fault.DragTooGreat i)) count old new = new ≡ old + (i + 1)
CountsSteps (Err fault.NoMemory) count old new = (old ≤ new) × (new ≤ old + count)
CountsSteps (Err (fault.Outside n)) count old new = ⊥
CountsSteps (Err fault.TooManySteps) count old new = ⊥
CountsSteps (Err (fault.StopsTooClose n)) count old new = ⊥

-- the refusal of a grid that is too long; memory may run out
abbrev pub RefusesGrid : Line → Service → Setup → RulesFault → Type 0
RefusesGrid line service setup fault.TooManySteps = IsLongGrid (marks_of line service) setup.step setup.place (last_place service.calls)
RefusesGrid line service setup fault.NoMemory = Unit {0}
RefusesGrid line service setup (fault.Outside n) = ⊥
RefusesGrid line service setup (fault.StopsTooClose n) = ⊥
RefusesGrid line service setup (fault.DragTooGreat i) = ⊥

-- for each point which call stands there, and whether it is a stop
pub record AreStops (calls : List Call) (places visits : List ℕ) (stops : List Bool) : Type 0 where
  pub visits_are : AreCallsAt calls places visits
  pub count : length stops ≡ length visits
  pub each : (k : ℕ) → k < length visits → slice_index_or stops k false ≡ is_stop_call calls (slice_index visits k)

-- the refusal is for the first call that is a stop too close
abbrev pub RefusesStops : List Call → ℕ → List ℕ → RulesFault → Type 0
RefusesStops calls speed places (fault.StopsTooClose n) = (1 ≤ n) × IsFirst (IsTooClose calls speed places) (length calls) (n - 1)
RefusesStops calls speed places fault.TooManySteps = ⊥
RefusesStops calls speed places fault.NoMemory = ⊥
RefusesStops calls speed places (fault.Outside n) = ⊥
RefusesStops calls speed places (fault.DragTooGreat i) = ⊥

-- the places, the calls that stand there and the stops
pub record IsLayout (line : Line) (service : Service) (setup : Setup) (l : Layout) : Type 0 where
  pub accepted : IsAccepted line service setup l.places.items
  pub stops_are : AreStops service.calls l.places.items l.visits.items l.stops.items
  pub apart : NoneClose l.stops.items setup.speed (length l.stops.items - 1)

-- the rows and the limits of the steps between places
pub record IsCourse (line : Line) (train : Train) (setup : Setup) (places : List ℕ) (c : Course) : Type 0 where
  pub count : length c.rows.items + 1 ≡ length places
  pub each_step : (i : ℕ) → i < length c.rows.items →
      IsStepOf train line.gradients (slice_index places i) (slice_index places (i + 1)) (slice_index_or c.rows.items i no_step)
  pub light : (i : ℕ) → i < length c.rows.items → IsTooGreat train places i → ⊥
  pub limits_count : length c.limits.items ≡ length c.rows.items
  pub each_limit : (i : ℕ) → i < length c.limits.items →
      IsLeastLimit line.limits setup.stretches train.length (slice_index places i) (slice_index places (i + 1)) (slice_index c.limits.items i)

-- the dwells of the points, and the timing points
pub record AreTimes (calls : List Call) (clock : ℕ) (places visits : List ℕ) (t : Times) : Type 0 where
  pub dwells_count : length t.dwells.items ≡ length visits
  pub each_dwell : (k : ℕ) → k < length visits → slice_index t.dwells.items k ≡ dwell_of calls (slice_index visits k)
  pub short : (k : ℕ) → slice_index t.dwells.items k ≤ 7200000
  pub timings_are : AreTimings calls (slice_index places 0) clock places t.timings.items
  pub few : length t.timings.items ≤ latest_count calls
