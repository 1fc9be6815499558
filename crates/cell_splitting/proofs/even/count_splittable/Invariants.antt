use Rattle.std.proofs.Common.{◌≡◌, ◌≤◌, ◌+◌, map, take, drop}
use Rattle.bound_specs.specs.Cells.{cell_count}
use Rattle.cell_splitting.specs.Even.{halved}
use Rattle.cell_splitting.proofs.even.count_splittable.Given as goal

abbrev pub invariant-loop-point : goal.invariant-loop-point
invariant-loop-point l = record {
  value : l.single + cell_count (take l.point (map halved l.cells)) ≡ cell_count l.cells + cell_count (take l.point l.cells);
  rest : cell_count (drop l.point l.cells) ≤ l.single;
  few : l.single ≤ l.all;
}
