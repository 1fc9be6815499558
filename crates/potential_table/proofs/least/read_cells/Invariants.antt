use Rattle.std.proofs.Common.{◌≡◌, take}
use Rattle.bound_specs.specs.Cells.{cells_of}
use Rattle.potential_table.specs.Filling.{AreCells}
use Rattle.potential_table.proofs.least.read_cells.Given as goal

abbrev pub invariant-loop-c : goal.invariant-loop-c
invariant-loop-c l = record {
  list : l.list.items ≡ take l.c (cells_of l.cells l.point);
  cells : AreCells l.list.items;
}
