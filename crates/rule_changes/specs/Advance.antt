-- The rules of a run whose train has come further: what is left of them from a later place on.
use Rattle.std.specs.Prelude.{ℕ, ◌+◌, ◌-◌, ◌<◌, ◌≤◌, ◌≡◌, ◌*◌, ℤ, pos, negsuc, ◌-ℤ◌, ◌≤ℤ◌, false, List, ◌∷◌, Contains, length, map, drop, slice_index, slice_index_or}
use Rattle.rail_specs.specs.declared.StepNumbers.{StepNumbers}
use Rattle.rail_specs.specs.declared.Timing.{Timing}
use Rattle.rail_specs.specs.Rules.{Rules, is_stop, step_at, no_timing}
use Rattle.line_file.specs.declared.line.Line.{Line}
use Rattle.line_file.specs.declared.service.Service.{Service}
use Rattle.line_file.specs.Shape.{IsService}
use Rattle.train_file.specs.declared.train.Train.{Train}
use Rattle.joined_rules.specs.declared.setup.Stretch.{Stretch}
use Rattle.joined_rules.specs.declared.setup.Setup.{Setup}
use Rattle.joined_rules.specs.Joined.{Joins}

-- point k is the last whose place is at most this one, and isn't the last of all
pub record IsLastAt (places : List ℕ) (place k : ℕ) : Type 0 where
  pub there : k + 1 < length places
  pub at : slice_index places k ≤ place
  pub below : place < slice_index places (k + 1)

-- the numbers of what is left of a step, so many metres
abbrev pub shortened : StepNumbers → ℕ → StepNumbers
shortened n metres = record n { metres = metres }

-- the first so many timing points are those that aren't behind point k
pub record ArePassed (timings : List Timing) (k count : ℕ) : Type 0 where
  pub most : count ≤ length timings
  pub passed : (h : ℕ) → h < count → (slice_index_or timings h no_timing).point ≤ k
  pub ahead : (h : ℕ) → count ≤ h → h < length timings → k < (slice_index_or timings h no_timing).point

-- a timing point as it is from a start at point k on, so many ms later
abbrev pub timing_from : ℕ → ℤ → Timing → Timing
timing_from k later t = record { point = t.point - k; latest = t.latest -ℤ later }

-- the timing points behind point k, as they are from a start there on, so many ms later
pub record AreTimingsFrom (old : List Timing) (k : ℕ) (later : ℤ) (new : List Timing) : Type 0 where
  -- how many of the old ones are passed
  pub count : ℕ
  pub passed : ArePassed old k count
  pub rest : new ≡ map (timing_from k later) (drop count old)

-- the rules as they are from a later place and another speed on, so many ms later: the step in which the place lies is shortened to what is
-- left of it, the point at its start stands at the place and is neither a stop nor a timing point, and what lies behind stays. Of the limits
-- it says no more than that there is one for each step
pub record IsAdvanced (old : Rules) (place speed : ℕ) (later : ℤ) (new : Rules) : Type 0 where
  -- the last of the old points at or before the place
  pub last : ℕ
  pub last_is : IsLastAt old.places place last
  pub start_is : new.start ≡ speed
  pub top_is : new.top ≡ old.top
  pub traction_is : new.traction ≡ old.traction
  pub brake_is : new.brake ≡ old.brake
  pub length_is : new.train_length ≡ old.train_length
  pub places_are : new.places ≡ place ∷ drop (last + 1) old.places
  pub steps_are : new.steps ≡ shortened (step_at old last) (slice_index old.places (last + 1) - place) ∷ drop (last + 1) old.steps
  pub limits_are : length new.limits ≡ length new.steps
  pub stops_are : new.stops ≡ false ∷ drop (last + 1) old.stops
  pub dwells_are : new.dwells ≡ 0 ∷ drop (last + 1) old.dwells
  pub timings_are : AreTimingsFrom old.timings last later new.timings

-- one step is counted where the place isn't one of the grid's, and none where it is
pub record CountsFirst (places : List ℕ) (place old new : ℕ) : Type 0 where
  pub kept : Contains places place → new ≡ old
  pub made : (Contains places place → ⊥) → new ≡ old + 1

-- where the train stands at the place, the next point isn't a stop
abbrev pub IsNoStopNext : Rules → ℕ → ℕ → Type 0
IsNoStopNext r place speed = speed ≡ 0 → (k : ℕ) → IsLastAt r.places place k → is_stop r (k + 1) ≡ false

-- no latest time falls below 48 hours before the start where all fall by so many ms
abbrev pub StayInRange : List Timing → ℤ → Type 0
StayInRange timings later = (h : ℕ) → h < length timings → negsuc 172799999 ≤ℤ ((slice_index_or timings h no_timing).latest -ℤ later)

-- from where a train goes on that has come further
abbrev pub setup_at : Setup → ℕ → ℕ → ℕ → List Stretch → Setup
setup_at setup place speed clock stretches = record { step = setup.step; place = place; speed = speed; clock = clock; stretches = stretches }

-- so many ms pass from one clock to another, both in s
abbrev pub IsLater : ℕ → ℕ → ℤ → Type 0
IsLater from to later = later ≡ pos (1000 * to) -ℤ pos (1000 * from)

-- where the old rules are those of a train that keeps to a service from a setup on, the new ones are those of the same train and service
-- from the new place, speed and clock on, under these stretches
abbrev pub GoesOnJoined : Line → List Stretch → ℕ → ℕ → ℤ → Rules → Rules → Type 0
GoesOnJoined line stretches place speed later old new = (train : Train) (service : Service) (setup : Setup) (clock : ℕ) → IsService service →
    Joins line train service setup old → IsLater setup.clock clock later → Joins line train service (setup_at setup place speed clock stretches) new
