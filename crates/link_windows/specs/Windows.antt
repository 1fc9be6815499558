-- Which cells of the next point a link from a cell can lead to: those between two places, where the cells rise.
use Rattle.std.specs.Prelude.{ℕ, ◌+◌, ◌^◌, ◌<◌, ◌≤◌, ◌≡◌, ◌↔◌, ◌&&◌, nat_le, min, Bool, pos, neg_ℤ, List, length, slice_index, slice_index_or, IsTrue}
use Rattle.std.specs.Int.RustNames.{int_le}
use Rattle.bound_specs.specs.declared.Cell.{Cell}
use Rattle.bound_specs.specs.Cells.{no_cell, IsCell}
use Rattle.bound_specs.specs.Links.{Pricing}
use Rattle.bound_specs.specs.Prices.{step_price}
use Rattle.rail_specs.specs.declared.StepNumbers.{StepNumbers}
use Rattle.rail_specs.specs.Rules.{Rules, step_at, traction_work, brake_work}
use Rattle.rail_specs.specs.Step.{work}
use Rattle.link_costs.specs.Soundness.{IsPricing, PricedSteps}

-- cells in the order of their speeds
pub record AreRising (cells : List Cell) : Type 0 where
  pub each : (b : ℕ) → b < length cells → IsCell (slice_index_or cells b no_cell)
  pub firsts : (b c : ℕ) → b ≤ c → c < length cells → (slice_index_or cells b no_cell).first ≤ (slice_index_or cells c no_cell).first
  pub lasts : (b c : ℕ) → b ≤ c → c < length cells → (slice_index_or cells b no_cell).last ≤ (slice_index_or cells c no_cell).last

-- a link from cell a can begin: its slowest speed is within the step's limit and the top
abbrev pub can_begin : Rules → ℕ → Cell → Bool
can_begin r i a = nat_le a.first (slice_index r.limits i) && nat_le a.first r.top

-- traction takes the fastest speed of cell a to the slowest of cell b, which is within the step's limit and the top
abbrev pub is_reached : Rules → ℕ → Cell → Cell → Bool
is_reached r i a b =
    nat_le b.first (slice_index r.limits i) && nat_le b.first r.top && int_le (work (step_at r i) a.last b.first) (pos (traction_work r i b.first))

-- the brakes hold the slowest speed of cell a to the fastest of cell b, and their fastest speeds move
abbrev pub is_held : Rules → ℕ → Cell → Cell → Bool
is_held r i a b = nat_le 1 (a.last + b.last) && int_le (neg_ℤ (pos (brake_work r i a.first))) (work (step_at r i) a.first b.last)

-- among these cells just those from one place up to but not including another are possible
pub record IsWindow (possible : Cell → Bool) (cells : List Cell) (from to : ℕ) : Type 0 where
  pub ordered : from ≤ to
  pub within : to ≤ length cells
  pub exact : (b : ℕ) → b < length cells → IsTrue (possible (slice_index_or cells b no_cell)) ↔ ((from ≤ b) × (b < to))

-- a run's costs of links, and one of its steps
pub record StepOf (C : Type 0) : Type 0 where
  pub priced : PricedSteps C
  pub step : ℕ

-- what is kept ready of a step: its numbers, the greatest speed that its limit and the top allow, and its price
pub record IsStep (p : Pricing) (i : ℕ) (row : StepNumbers) (ceiling charge : ℕ) : Type 0 where
  pub sound : IsPricing p
  pub step : i < length p.rules.steps
  pub numbers : row ≡ step_at p.rules i
  pub most : ceiling ≡ min (slice_index p.rules.limits i) p.rules.top
  pub price : charge ≡ step_price p.prices i
  pub small_price : charge ≤ 2 ^ 56
