-- Prices of time: what each timing point charges for a ms, and what that makes of each step.
use Rattle.std.specs.Prelude.{ℕ, ◌+◌, ◌*◌, ◌^◌, ◌<◌, ◌≤◌, ◌≡◌, ℤ, pos, ◌*ℤ◌, List, length, map, slice_index, if◌then◌else◌, nat_lt}
use Rattle.rail_specs.specs.Rules.{Rules}
use Rattle.rail_specs.specs.Times.{sum_below, slack_of}
use Rattle.rail_specs.specs.Cost.{int_sum_below}

-- prices: for each timing point its point, and what a ms before it costs, in 0.5 microjoule
pub record Prices : Type 0 where
  pub points : List ℕ
  pub values : List ℕ

-- what holds of all prices
pub record ArePrices (p : Prices) : Type 0 where
  pub equal : length p.values ≡ length p.points
  pub some : 1 ≤ length p.points
  pub few : length p.points ≤ 64
  pub start : 1 ≤ slice_index p.points 0
  pub rising : (j : ℕ) → j + 1 < length p.points → slice_index p.points j < slice_index p.points (j + 1)
  pub low : (j : ℕ) → slice_index p.values j ≤ 2 ^ 50

-- prices for the timing points of the rules
abbrev pub AreFor : Rules → Prices → Type 0
AreFor r p = p.points ≡ map (λ t. t.point) r.timings

-- what timing point j charges for a ms of step i: its price where it lies behind the step, and else nothing
abbrev pub charge : Prices → ℕ → ℕ → ℕ
charge p j i = if nat_lt i (slice_index p.points j) then slice_index p.values j else 0

-- the price of a ms of step i: the sum of the prices of the timing points behind the step's first point
abbrev pub step_price : Prices → ℕ → ℕ
step_price p i = sum_below (λ j. charge p j i) (length p.points)

-- sums by parts: over any times of steps, what the steps pay is what the timing points earn for the times before them
abbrev pub SumsByParts : Prices → Type 0
SumsByParts p =
    (times : List ℕ)
    → sum_below (λ i. step_price p i * slice_index times i) (length times)
    ≡ sum_below (λ j. slice_index p.values j * sum_below (slice_index times) (slice_index p.points j)) (length p.points)

-- what the prices charge for all the time that the rules leave for driving
abbrev pub priced_slack : Rules → Prices → ℤ
priced_slack r p = int_sum_below (λ j. pos (slice_index p.values j) *ℤ slack_of r j) (length p.points)
