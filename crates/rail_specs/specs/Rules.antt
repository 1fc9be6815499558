-- The rules of a run over a line, and what a drive under them is.
use Rattle.std.specs.Prelude.{ℕ, ◌+◌, ◌*◌, ◌<◌, ◌≤◌, ◌≡◌, ℤ, pos, ◌≤ℤ◌, neg_ℤ, List, length, slice_index, slice_index_or, MatchBool, Bool, false}
use Rattle.rail_specs.specs.declared.StepNumbers.{StepNumbers}
use Rattle.rail_specs.specs.declared.Timing.{Timing}
use Rattle.rail_specs.specs.declared.Narrow.{Narrow}
use Rattle.rail_specs.specs.Step.{work}

-- the rules of a run: n steps, n + 1 points, and what the train can do
pub record Rules : Type 0 where
  -- the speed at the first point, cm/s
  pub start : ℕ
  -- the train's top speed, cm/s
  pub top : ℕ
  -- the greatest force at each speed from 0 to the top, N
  pub traction : List ℕ
  pub brake : List ℕ
  -- how long the train is, in metres: each limit holds until its tail has left the limit's section
  pub train_length : ℕ
  -- for each step: its numbers, and its speed limit in cm/s
  pub steps : List StepNumbers
  pub limits : List ℕ
  -- for each point: its place in metres, whether the train stops there, and how long, in ms
  pub places : List ℕ
  pub stops : List Bool
  pub dwells : List ℕ
  -- the points with a latest time
  pub timings : List Timing

-- what stands past the last step
abbrev pub no_step : StepNumbers
no_step = record { mass = 0; inertia = 0; a = 0; b = 0; c = 0; metres = 0; gradient = pos 0 }

-- what stands past the last timing point
abbrev pub no_timing : Timing
no_timing = record { point = 0; latest = pos 0 }

-- the numbers of step i
abbrev pub step_at : Rules → ℕ → StepNumbers
step_at r i = slice_index_or r.steps i no_step

-- the timing point of index j
abbrev pub timing_at : Rules → ℕ → Timing
timing_at r j = slice_index_or r.timings j no_timing

-- whether the train stops at point k
abbrev pub is_stop : Rules → ℕ → Bool
is_stop r k = slice_index_or r.stops k false

-- the work of step i of a list of speeds
abbrev pub work_at : Rules → List ℕ → ℕ → ℤ
work_at r speeds i = work (step_at r i) (slice_index speeds i) (slice_index speeds (i + 1))

-- the most work that the traction does over step i, at the force of the exit speed
abbrev pub traction_work : Rules → ℕ → ℕ → ℕ
traction_work r i v1 = 2000000 * (step_at r i).metres * slice_index r.traction v1

-- the most work that the brakes take over step i, at the force of the entry speed
abbrev pub brake_work : Rules → ℕ → ℕ → ℕ
brake_work r i v0 = 2000000 * (step_at r i).metres * slice_index r.brake v0

-- step i is driven from v0 to v1 within its limit, the top speed and the forces
pub record IsStepKept (r : Rules) (i v0 v1 : ℕ) : Type 0 where
  pub limit : (v0 ≤ slice_index r.limits i) × (v1 ≤ slice_index r.limits i)
  pub top : (v0 ≤ r.top) × (v1 ≤ r.top)
  pub traction : work (step_at r i) v0 v1 ≤ℤ pos (traction_work r i v1)
  pub brake : neg_ℤ (pos (brake_work r i v0)) ≤ℤ work (step_at r i) v0 v1

-- the speed at point k after the first is 0 at a stop, and at least 1 elsewhere
abbrev pub IsPassed : Rules → ℕ → ℕ → Type 0
IsPassed r k v = MatchBool (is_stop r k) (v ≡ 0) (1 ≤ v)

-- a drive: one speed for each point, the first the start speed, with each point and each step kept
pub record IsDrive (r : Rules) (speeds : List ℕ) : Type 0 where
  pub count : length speeds ≡ length r.steps + 1
  pub start : slice_index speeds 0 ≡ r.start
  pub points : (k : ℕ) → 1 ≤ k → k < length speeds → IsPassed r k (slice_index speeds k)
  pub steps : (i : ℕ) → i < length r.steps → IsStepKept r i (slice_index speeds i) (slice_index speeds (i + 1))

-- a drive under a narrowing: no speed above the cap, and no traction on the steps from idle_from up to but not including idle_to
pub record IsNarrowDrive (r : Rules) (n : Narrow) (speeds : List ℕ) : Type 0 where
  pub drive : IsDrive r speeds
  pub cap : (k : ℕ) → slice_index speeds k ≤ n.cap
  pub idle : (i : ℕ) → n.idle_from ≤ i → i < n.idle_to → i < length r.steps → work_at r speeds i ≤ℤ pos 0

-- there is no drive
abbrev pub NoDrive : Rules → Type 0
NoDrive r = (speeds : List ℕ) → IsDrive r speeds → ⊥

-- a drive than which no drive is faster at any point
pub record IsGreatestDrive (r : Rules) (speeds : List ℕ) : Type 0 where
  pub drive : IsDrive r speeds
  pub above : (d : List ℕ) → IsDrive r d → (k : ℕ) → slice_index d k ≤ slice_index speeds k
