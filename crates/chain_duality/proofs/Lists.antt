-- The cells of the points from some point on.
use Rattle.std.proofs.Common.{ℕ, ◌≡◌, ◌<◌, ◌≤◌, ◌+◌, List, [], ◌∷◌, length, drop, sym, add-one, drop-cons}
use Rattle.std.proofs.Math.ListN.{drop_of_length-le}
use Rattle.bound_specs.specs.declared.Cell.{Cell}
use Rattle.bound_specs.specs.Cells.{cells_of, cell_at, IsCell, AreAdjacent}

-- the cells of these points are intervals of speeds
abbrev pub AreCellsOfPoints : List (List Cell) → Type 0
AreCellsOfPoints cells = (k c : ℕ) → k < length cells → c < length (cells_of cells k) → IsCell (cell_at cells k c)

-- cells that lie side by side are intervals of speeds
pub adjacent_cells : (cells : List (List Cell)) → ((k : ℕ) → k < length cells → AreAdjacent (cells_of cells k)) → AreCellsOfPoints cells
adjacent_cells cells h k c lt in_point = (h k lt).cells c in_point

-- the cells of the next point stand first among those behind a point
pub next_first : (cells : List (List Cell)) (k : ℕ) → k + 1 < length cells → cells_of cells (k + 1) ∷ drop (k + 1 + 1) cells ≡ drop (k + 1) cells
next_first cells k lt = rw (add-one (k + 1)) (sym (drop-cons cells (k + 1) [] lt))

-- behind the last point there is none
pub none_behind : (cells : List (List Cell)) (k : ℕ) → length cells ≤ k + 1 → drop (k + 1) cells ≡ []
none_behind cells k h = drop_of_length-le cells h
