-- What drives cost where being late is charged for, and not forbidden.
use Rattle.std.specs.Prelude.{ℕ, ◌≡◌, ℤ, pos, ◌+ℤ◌, ◌-ℤ◌, ◌*ℤ◌, ◌≤ℤ◌, List, length, slice_index}
use Rattle.rail_specs.specs.Rules.{Rules, timing_at, IsDrive}
use Rattle.rail_specs.specs.Times.{arrival_down}
use Rattle.rail_specs.specs.Cost.{cost_of, int_sum_below}
use Rattle.bound_specs.specs.Links.{Pricing}

-- how late speeds are at the timing point of index j, their step times rounded down, in ms: less than nothing where they are early
abbrev pub lateness : Rules → List ℕ → ℕ → ℤ
lateness r speeds j = pos (arrival_down r speeds (timing_at r j).point) -ℤ (timing_at r j).latest

-- what speeds cost, and what the prices charge for their lateness at each timing point
abbrev pub relaxed_cost : Pricing → List ℕ → ℤ
relaxed_cost p speeds =
    cost_of p.cost p.rules speeds +ℤ int_sum_below (λ j. pos (slice_index p.prices.values j) *ℤ lateness p.rules speeds j) (length p.rules.timings)

-- the least relaxed cost of all drives
pub record IsLeastRelaxed (p : Pricing) (least : ℤ) : Type 0 where
  pub attained : (speeds : List ℕ) × IsDrive p.rules speeds × (least ≡ relaxed_cost p speeds)
  pub below : (speeds : List ℕ) → IsDrive p.rules speeds → least ≤ℤ relaxed_cost p speeds
