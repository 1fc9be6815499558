-- The times of a drive, and what on time and late mean.
use Rattle.std.specs.Prelude.{ℕ, suc, zero, ◌+◌, ◌<◌, ℤ, pos, ◌-ℤ◌, ◌≤ℤ◌, ◌<ℤ◌, List, length, slice_index, All}
use Rattle.rail_specs.specs.Step.{lower_time, upper_time}
use Rattle.rail_specs.specs.Rules.{Rules, step_at, timing_at, IsDrive}

-- f 0 + .. + f (n - 1)
abbrev pub sum_below : (ℕ → ℕ) → ℕ → ℕ
sum_below f zero = 0
sum_below f (suc n) = sum_below f n + f n

-- the ms from the start to the arrival at point k, each step's time rounded up: the times of the first k steps
-- and the dwells at the points before k (the rules have no dwell at point 0)
abbrev pub arrival_up : Rules → List ℕ → ℕ → ℕ
arrival_up r speeds k =
    sum_below (λ i. slice_index r.dwells i + upper_time (step_at r i).metres (slice_index speeds i) (slice_index speeds (i + 1))) k

-- the same, each step's time rounded down
abbrev pub arrival_down : Rules → List ℕ → ℕ → ℕ
arrival_down r speeds k =
    sum_below (λ i. slice_index r.dwells i + lower_time (step_at r i).metres (slice_index speeds i) (slice_index speeds (i + 1))) k

-- the ms that the train stands at the points before point k (the rules have no dwell at point 0)
abbrev pub standing_before : Rules → ℕ → ℕ
standing_before r k = sum_below (λ i. slice_index r.dwells i) k

-- what is left for driving of the latest time of the timing point of index j, in ms: the latest time minus the dwells
-- at the points before the timing point
abbrev pub slack_of : Rules → ℕ → ℤ
slack_of r j = (timing_at r j).latest -ℤ pos (standing_before r (timing_at r j).point)

-- at each timing point the time, rounded up, is at most the latest time
abbrev pub IsOnTimeUp : Rules → List ℕ → Type 0
IsOnTimeUp r speeds = All (λ t. pos (arrival_up r speeds t.point) ≤ℤ t.latest) r.timings

-- the same with times rounded down
abbrev pub IsOnTimeDown : Rules → List ℕ → Type 0
IsOnTimeDown r speeds = All (λ t. pos (arrival_down r speeds t.point) ≤ℤ t.latest) r.timings

-- no drive is on time
abbrev pub NoneOnTime : Rules → Type 0
NoneOnTime r = (speeds : List ℕ) → IsDrive r speeds → IsOnTimeUp r speeds → ⊥

-- the timing point of index j is the first that the speeds reach too late
pub record IsFirstLate (r : Rules) (speeds : List ℕ) (j : ℕ) : Type 0 where
  pub there : j < length r.timings
  pub late : (timing_at r j).latest <ℤ pos (arrival_up r speeds (timing_at r j).point)
  pub before : (h : ℕ) → h < j → pos (arrival_up r speeds (timing_at r h).point) ≤ℤ (timing_at r h).latest
