use Rattle.std.proofs.Common.{All}
use Rattle.bound_specs.specs.Cells.{IsCell}
use Rattle.split_choice.proofs.forward.cells_at.Given as goal

abbrev pub invariant-loop-c : goal.invariant-loop-c
invariant-loop-c l = All IsCell l.list.items
