use Rattle.std.proofs.Common.{◌≡◌, length}
use Rattle.costate_search.proofs.step_rounds.forward.Given as goal

abbrev pub invariant-loop-i : goal.invariant-loop-i
invariant-loop-i l = length l.all.items ≡ l.i
