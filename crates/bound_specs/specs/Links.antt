-- Links between cells of neighbouring points: which are possible, and what a link costs at least, with the step's time priced.
use Rattle.std.specs.Prelude.{ℕ, ◌+◌, ◌*◌, ◌&&◌, nat_le, Bool, ℤ, pos, neg_ℤ, ◌+ℤ◌, Option, Some, None, if◌then◌else◌, slice_index}
use Rattle.std.specs.Int.RustNames.{int_le}
use Rattle.bound_specs.specs.declared.Cell.{Cell}
use Rattle.rail_specs.specs.Step.{work, lower_time}
use Rattle.rail_specs.specs.Rules.{Rules, step_at, traction_work, brake_work}
use Rattle.bound_specs.specs.Cells.{single}
use Rattle.bound_specs.specs.Prices.{Prices, step_price}

-- a cost of work, rules, and prices
pub record Pricing : Type 0 where
  pub cost : ℤ → ℤ
  pub rules : Rules
  pub prices : Prices

-- a link over step i from cell a to cell b is possible: its slowest speeds are within the limit and the top, its fastest ones move,
-- traction takes the fastest entry to the slowest exit, and brakes hold the slowest entry to the fastest exit
abbrev pub can_link : Rules → ℕ → Cell → Cell → Bool
can_link r i a b =
    (nat_le a.first (slice_index r.limits i) && nat_le b.first (slice_index r.limits i))
    && (nat_le a.first r.top && nat_le b.first r.top)
    && nat_le 1 (a.last + b.last)
    && int_le (work (step_at r i) a.last b.first) (pos (traction_work r i b.first))
    && int_le (neg_ℤ (pos (brake_work r i a.first))) (work (step_at r i) a.first b.last)

-- step i can be driven from v0 to v1 where the link between the cells of these speeds is possible: it takes time, and is within its
-- limit, the top speed and the forces
abbrev pub can_drive : Rules → ℕ → ℕ → ℕ → Bool
can_drive r i v0 v1 = can_link r i (single v0) (single v1)

-- what the step's time, rounded down, costs at the step's price
abbrev pub priced_time : Pricing → ℕ → ℕ → ℕ → ℕ
priced_time p i v0 v1 = step_price p.prices i * lower_time (step_at p.rules i).metres v0 v1

-- the low cost of a link over step i from cell a to cell b: of the work from the fastest entry to the slowest exit, and of the
-- time of the fastest speeds; none where the link isn't possible
abbrev pub low_cost : Pricing → ℕ → Cell → Cell → Option ℤ
low_cost p i a b =
    if can_link p.rules i a b then Some (p.cost (work (step_at p.rules i) a.last b.first) +ℤ pos (priced_time p i a.last b.last)) else None

-- the cost of step i from v0 to v1: of its work and of its time, none where it can't be driven
abbrev pub priced_cost : Pricing → ℕ → ℕ → ℕ → Option ℤ
priced_cost p i v0 v1 = low_cost p i (single v0) (single v1)
