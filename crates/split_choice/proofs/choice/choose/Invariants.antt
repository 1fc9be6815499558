use Rattle.std.proofs.Common.{◌≤◌, ◌+◌, length}
use Rattle.split_choice.proofs.choice.choose.Given as goal

abbrev pub invariant-loop-rank : goal.invariant-loop-rank
invariant-loop-rank g l = l.last + 2 ≤ length l.cells
