use Rattle.std.proofs.Common.{◌≡◌, ◌≤◌}
use Rattle.bound_specs.specs.Cells.{cell_count}
use Rattle.cell_splitting.specs.Splits.{ComeBySplits}
use Rattle.cell_splitting.specs.Even.{halvings}
use Rattle.cell_splitting.proofs.even.split_evenly.Given as goal

abbrev pub invariant-loop : goal.invariant-loop
invariant-loop l = record {
  come : ComeBySplits l.initial.cells l.cells;
  value : l.cells ≡ halvings l.counter l.initial.cells;
  within : cell_count l.cells ≤ l.limit;
}
