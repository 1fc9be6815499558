use Rattle.std.proofs.Common.{◌≡◌, ◌<◌, ◌+◌, ℕ}
use Rattle.bound_specs.specs.Cells.{cells_of, cell_count}
use Rattle.cell_splitting.specs.Splits.{ComeBySplits}
use Rattle.cell_splitting.specs.Chosen.{AreTried}
use Rattle.cell_splitting.proofs.chosen.split_chosen.Given as goal

abbrev pub invariant-loop-place : goal.invariant-loop-place
invariant-loop-place l = record {
  come : ComeBySplits l.initial.cells l.cells;
  count : cell_count l.cells + l.left ≡ cell_count l.initial.cells + l.most;
  behind : (k : ℕ) → l.last < k → cells_of l.cells k ≡ cells_of l.initial.cells k;
  tried : AreTried l.places l.last l.most l.initial.cells l.place-index l.cells;
}
