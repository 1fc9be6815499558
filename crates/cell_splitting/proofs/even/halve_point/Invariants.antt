use Rattle.std.proofs.Common.{◌≡◌, set}
use Rattle.bound_specs.specs.Cells.{cells_of}
use Rattle.cell_splitting.specs.Splits.{ComeBySplits}
use Rattle.cell_splitting.proofs.Halving.{halved_from}
use Rattle.cell_splitting.proofs.even.halve_point.Given as goal

abbrev pub invariant-loop-cell : goal.invariant-loop-cell
invariant-loop-cell l = record {
  come : ComeBySplits l.initial.cells l.cells;
  value : l.cells ≡ set l.initial.cells l.point (halved_from (cells_of l.initial.cells l.point) l.cell);
}
