use Rattle.std.proofs.Common.{◌≡◌, ◌++◌, map, take, drop}
use Rattle.cell_splitting.specs.Splits.{ComeBySplits}
use Rattle.cell_splitting.specs.Even.{halved}
use Rattle.cell_splitting.proofs.even.halve_all.Given as goal

abbrev pub invariant-loop-point : goal.invariant-loop-point
invariant-loop-point l = record {
  come : ComeBySplits l.initial.cells l.cells;
  value : l.cells ≡ map halved (take l.point l.initial.cells) ++ drop l.point l.initial.cells;
}
