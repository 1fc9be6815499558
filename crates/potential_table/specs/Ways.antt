-- Ways on: the cells of a point from which there is a chain to the last point, each with what the least such chain costs.
use Rattle.std.specs.Prelude.{ℕ, ◌+◌, ◌*◌, ◌<◌, ◌≤◌, ◌≡◌, ℤ, ◌≤ℤ◌, pos, List, [], ◌∷◌, ◌++◌, Option, Some, None, IfSome, length, slice_index_or}
use Rattle.bound_specs.specs.declared.Cell.{Cell}
use Rattle.bound_specs.specs.Cells.{no_cell, IsCell, IsInside}
use Rattle.bound_specs.specs.Chains.{plus, IsAtMost}
use Rattle.potential_table.specs.Filling.{IsSmallSum, IsLeastOf}
use Rattle.potential_table.specs.declared.ways.Way.{Way}

-- what stands past the last way
abbrev pub no_way : Way
no_way = record { cell = no_cell; beyond = pos 0 }

-- way j of these
abbrev pub way_at : List Way → ℕ → Way
way_at ways j = slice_index_or ways j no_way

-- one more way, from a cell where there is a value
abbrev pub ways_with : List Way → Cell → Option ℤ → List Way
ways_with ways cell None = ways
ways_with ways cell (Some beyond) = ways ++ record { cell = cell; beyond = beyond } ∷ []

-- the ways on from the first m of these cells: each is from one of them and costs its value, and each of them that has a value is
-- where one begins
pub record AreWays (ways : List Way) (cells : List Cell) (value : ℕ → Option ℤ) (m : ℕ) : Type 0 where
  pub from : (j : ℕ) → j < length ways
      → (c : ℕ) × (c < m) × (slice_index_or cells c no_cell ≡ (way_at ways j).cell) × (value c ≡ Some (way_at ways j).beyond)
  pub all : (c : ℕ) → c < m
      → IfSome (value c) (λ p. (j : ℕ) × (j < length ways) × (way_at ways j ≡ record { cell = slice_index_or cells c no_cell; beyond = p }))

-- a way begins at an interval of speeds, and its cost is small
abbrev pub IsUsable : Way → Type 0
IsUsable way = IsCell way.cell × IsSmallSum (Some way.beyond)

-- each of these ways is usable
abbrev pub AreUsable : List Way → Type 0
AreUsable ways = (j : ℕ) → j < length ways → IsUsable (way_at ways j)

-- a way stands for another: its cell has all speeds of the other's, and it costs no more
pub record StandsFor (way other : Way) : Type 0 where
  pub cell : IsInside other.cell way.cell
  pub beyond : way.beyond ≤ℤ other.beyond

-- groups of eight ways each, and of the rest: each group's way stands for those of the group
pub record AreGroups (groups ways : List Way) : Type 0 where
  pub usable : AreUsable groups
  pub whole : length ways ≤ 8 * length groups
  pub some : (b : ℕ) → b < length groups → 8 * b < length ways
  pub each : (b j : ℕ) → b < length groups → 8 * b ≤ j → j < 8 * b + 8 → j < length ways → StandsFor (way_at groups b) (way_at ways j)

-- v is one of these n numbers, or none; it is at most another number, and at most each of these from one place up to another
pub record IsLesserOf (f : ℕ → Option ℤ) (n : ℕ) (begun : Option ℤ) (from to : ℕ) (v : Option ℤ) : Type 0 where
  pub one : IfSome v (λ p. (c : ℕ) × (c < n) × (f c ≡ Some p))
  pub no_more : IsAtMost v begun
  pub below : (c : ℕ) → from ≤ c → c < to → IsAtMost v (f c)

-- what the least chain costs that goes from cell a by way j
abbrev pub by_way : (ℕ → Cell → Cell → Option ℤ) → ℕ → Cell → List Way → ℕ → Option ℤ
by_way low i a ways j = plus (low i a (way_at ways j).cell) (Some (way_at ways j).beyond)

-- each left cell's value is the least over all ways
abbrev pub AreLeastByWays : (ℕ → Cell → Cell → Option ℤ) → ℕ → List Cell → List Way → (ℕ → Option ℤ) → Type 0
AreLeastByWays low i left ways value =
    (a : ℕ) → a < length left → IsLeastOf (by_way low i (slice_index_or left a no_cell) ways) (length ways) (value a)
