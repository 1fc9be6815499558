-- The times of arrival at all points.
use Rattle.std.specs.Prelude.{ℕ, ◌+◌, ◌*◌, ◌≡◌, ◌≤◌, List, length, slice_index}
use Rattle.rail_specs.specs.Rules.{Rules}
use Rattle.rail_specs.specs.Times.{arrival_up}

-- these are the ms of arrival at each point, step times rounded up
pub record AreArrivals (r : Rules) (speeds times : List ℕ) : Type 0 where
  pub count : length times ≡ length r.steps + 1
  pub each : (k : ℕ) → k ≤ length r.steps → slice_index times k ≡ arrival_up r speeds k
  pub early : (k : ℕ) → k ≤ length r.steps → slice_index times k ≤ 210000000 * k
