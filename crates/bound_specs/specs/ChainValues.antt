-- Chain values: what the least chain of cells and the prices of time give together, which price of a timing point gives the most, and
-- when cells are finer than others.
use Rattle.std.specs.Prelude.{ℕ, ◌+◌, ◌^◌, ◌<◌, ◌≤◌, ◌≡◌, ℤ, ◌-ℤ◌, ◌<ℤ◌, List, Option, IfSome, length, slice_index, slice_set, option_map}
use Rattle.rail_specs.specs.Rules.{Rules}
use Rattle.bound_specs.specs.declared.Cell.{Cell}
use Rattle.bound_specs.specs.Cells.{cells_of, cell_at, IsCell, IsInside}
use Rattle.bound_specs.specs.Chains.{IsAtMost, IsLeastChain}
use Rattle.bound_specs.specs.Prices.{Prices, priced_slack}
use Rattle.bound_specs.specs.Links.{Pricing, low_cost}

-- the chain value of cells: what the least chain from the start's cell costs, its time priced, less the priced slack of the timing
-- points; none where there is no chain
abbrev pub IsChainValue : Pricing → List (List Cell) → Option ℤ → Type 0
IsChainValue p cells value =
    (least : Option ℤ) × IsLeastChain (low_cost p) 0 cells (cell_at cells 0 0) least
    × (value ≡ option_map (λ q. q -ℤ priced_slack p.rules p.prices) least)

-- the same prices, but for timing point j, which charges q for a ms
abbrev pub price_set : Prices → ℕ → ℕ → Prices
price_set p j q = record { points = p.points; values = slice_set p.values j q }

abbrev pub with_price : Pricing → ℕ → ℕ → Pricing
with_price p j q = record { cost = p.cost; rules = p.rules; prices = price_set p.prices j q }

-- a number is less than another, where both are there
abbrev pub IsLess : Option ℤ → Option ℤ → Type 0
IsLess v w = IfSome v (λ a. IfSome w (λ b. a <ℤ b))

-- the price of timing point j is the least whole number from 0 to 2^50 whose chain value is greatest on these cells
pub record IsBestPrice (p : Pricing) (cells : List (List Cell)) (j : ℕ) : Type 0 where
  pub greatest : (q : ℕ) (v w : Option ℤ) → q ≤ 2 ^ 50 → IsChainValue p cells v → IsChainValue (with_price p j q) cells w → IsAtMost w v
  pub least : (q : ℕ) (v w : Option ℤ) → q < slice_index p.prices.values j → IsChainValue p cells v
      → IsChainValue (with_price p j q) cells w → IsLess w v

-- cells at the points of the rules are finer than others: at each point each of them lies inside one of the others; at the first point
-- there is one cell each
pub record AreFiner (r : Rules) (coarse fine : List (List Cell)) : Type 0 where
  pub points : length fine ≡ length r.steps + 1
  pub points_coarse : length coarse ≡ length r.steps + 1
  pub start_coarse : length (cells_of coarse 0) ≡ 1
  pub start_fine : length (cells_of fine 0) ≡ 1
  pub cells_coarse : (k c : ℕ) → k < length coarse → c < length (cells_of coarse k) → IsCell (cell_at coarse k c)
  pub cells_fine : (k c : ℕ) → k < length fine → c < length (cells_of fine k) → IsCell (cell_at fine k c)
  pub inside : (k c : ℕ) → k < length fine → c < length (cells_of fine k)
      → (d : ℕ) × (d < length (cells_of coarse k)) × IsInside (cell_at fine k c) (cell_at coarse k d)
