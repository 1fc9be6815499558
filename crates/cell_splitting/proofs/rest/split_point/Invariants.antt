use Rattle.std.proofs.Common.{◌≡◌, ◌≢◌, ◌≤◌, ◌<◌, ◌+◌, ◌-◌, ◌*◌, ℕ, length}
use Rattle.bound_specs.specs.Cells.{cells_of, cell_at, cell_count}
use Rattle.cell_splitting.specs.Splits.{ComeBySplits}
use Rattle.cell_splitting.proofs.rest.split_point.Given as goal

abbrev pub decreases-loop-left : goal.decreases-loop-left
decreases-loop-left l = 2 * l.left + (length (cells_of l.cells l.point) - l.cell)

abbrev pub invariant-loop-left : goal.invariant-loop-left
invariant-loop-left l = record {
  come : ComeBySplits l.initial.cells l.cells;
  points : length l.cells ≡ length l.initial.cells;
  count : cell_count l.cells + l.left ≡ cell_count l.initial.cells + l.most;
  others : (k : ℕ) → k ≢ l.point → cells_of l.cells k ≡ cells_of l.initial.cells k;
  cell : l.cell ≤ length (cells_of l.cells l.point);
  single : (c : ℕ) → c < l.cell → (cell_at l.cells l.point c).first ≡ (cell_at l.cells l.point c).last;
}
