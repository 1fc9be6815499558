-- What the steps of a run pay at the prices of its timing points.
use Rattle.std.specs.Prelude.{ℕ, ◌*◌, ◌<◌, ◌≤◌, ◌≡◌, List, length, slice_index}
use Rattle.bound_specs.specs.Prices.{Prices, ArePrices, step_price}
use Rattle.rail_specs.specs.Times.{sum_below}

-- sums by parts over times that are any function of the step: where no timing point lies behind the n steps, what the steps pay at
-- their prices is what the timing points earn at theirs for the times before them
abbrev pub StepsSumByParts : Prices → Type 0
StepsSumByParts p =
    (times : ℕ → ℕ) (n : ℕ)
    → ((j : ℕ) → j < length p.points → slice_index p.points j ≤ n)
    → sum_below (λ i. step_price p i * times i) n
    ≡ sum_below (λ j. slice_index p.values j * sum_below times (slice_index p.points j)) (length p.points)

-- the prices of timing points, and of as many steps as are kept ready
pub record AreKept (p : Prices) (by_step : List ℕ) : Type 0 where
  pub prices : ArePrices p
  pub ready : (i : ℕ) → i < length by_step → slice_index by_step i ≡ step_price p i
