use Rattle.std.proofs.Common.{All}
use Rattle.bound_specs.specs.Cells.{IsCell}
use Rattle.split_choice.proofs.forward.forward_values.Given as goal

abbrev pub invariant-loop-i : goal.invariant-loop-i
invariant-loop-i g l = All IsCell l.left.items
