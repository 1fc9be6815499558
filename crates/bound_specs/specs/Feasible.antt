-- Feasible values of cells: what a table of least chains keeps, and all that weak duality asks of one.
use Rattle.std.specs.Prelude.{ℕ, ◌+◌, ◌<◌, ◌≡◌, ℤ, pos, List, Option, Some, length}
use Rattle.bound_specs.specs.declared.Cell.{Cell}
use Rattle.bound_specs.specs.Cells.{cells_of, cell_at}
use Rattle.bound_specs.specs.Chains.{plus, IsAtMost, values_of, value_at}

-- values are feasible under costs of links: there is one for each cell, those of the last point are 0, and each is at most what a link
-- costs and the value behind it together, wherever the link costs something and the value behind it is there
pub record AreFeasible (low : ℕ → Cell → Cell → Option ℤ) (cells : List (List Cell)) (values : List (List (Option ℤ))) : Type 0 where
  pub points : length values ≡ length cells
  pub counts : (k : ℕ) → k < length cells → length (values_of values k) ≡ length (cells_of cells k)
  pub last : (k c : ℕ) → k + 1 ≡ length cells → c < length (cells_of cells k) → value_at values k c ≡ Some (pos 0)
  pub links : (k c d : ℕ) → k + 1 < length cells → c < length (cells_of cells k) → d < length (cells_of cells (k + 1))
      → IsAtMost (value_at values k c) (plus (low k (cell_at cells k c) (cell_at cells (k + 1) d)) (value_at values (k + 1) d))
