use Rattle.std.proofs.Common.{◌≡◌, ◌≤◌, ◌+◌, length, take}
use Rattle.bound_specs.specs.Cells.{cells_of}
use Rattle.cell_splitting.specs.Even.{halved}
use Rattle.cell_splitting.proofs.even.count_of_point.Given as goal

abbrev pub invariant-loop-cell : goal.invariant-loop-cell
invariant-loop-cell l = record {
  value : l.count + l.cell ≡ length (halved (take l.cell (cells_of l.cells l.point)));
  few : l.count ≤ l.cell;
}
