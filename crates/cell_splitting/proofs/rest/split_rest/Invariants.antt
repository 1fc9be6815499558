use Rattle.std.proofs.Common.{ℕ, ◌≡◌, ◌<◌, ◌+◌, ◌⊎◌, All, length}
use Rattle.bound_specs.specs.declared.Cell.{Cell}
use Rattle.bound_specs.specs.Cells.{cells_of, cell_count}
use Rattle.cell_splitting.specs.Splits.{ComeBySplits}
use Rattle.cell_splitting.proofs.rest.split_rest.Given as goal

abbrev pub invariant-loop-point : goal.invariant-loop-point
invariant-loop-point l = record {
  come : ComeBySplits l.initial.cells l.cells;
  points : length l.cells ≡ length l.initial.cells;
  count : cell_count l.cells + l.left ≡ cell_count l.initial.cells + l.most;
  spent : (k : ℕ) → k < l.point → (l.left ≡ 0) ⊎ All (λ (a : Cell). a.first ≡ a.last) (cells_of l.cells k);
}
