-- When potentials and prices give a bound.
use Rattle.std.specs.Prelude.{ℕ, ◌<◌, ℤ, List, Option, length}
use Rattle.bound_specs.specs.declared.Cell.{Cell}
use Rattle.rail_specs.specs.Rules.{Rules}
use Rattle.rail_specs.specs.Cost.{Grows, StaysWithin, IsBound}
use Rattle.bound_specs.specs.Cells.{cells_of, AreAdjacent, CellsCover}
use Rattle.bound_specs.specs.Chains.{ArePotentials}
use Rattle.bound_specs.specs.Prices.{Prices}
use Rattle.bound_specs.specs.Links.{low_cost}

-- a number is a bound for each cost of work under which the values are the potentials of cells that cover the rules
abbrev pub GivesBound : Rules → Prices → List (List (Option ℤ)) → ℤ → Type 0
GivesBound r p values bound =
    (cost : ℤ → ℤ) (cells : List (List Cell)) → Grows cost → StaysWithin cost
    → CellsCover r cells → ((k : ℕ) → k < length cells → AreAdjacent (cells_of cells k))
    → ArePotentials (low_cost (record { cost = cost; rules = r; prices = p })) cells values
    → IsBound cost r bound
