use Rattle.std.proofs.Common.{◌≡◌, length}
use Rattle.costate_search.proofs.search.full.Given as goal

abbrev pub invariant-loop-i : goal.invariant-loop-i
invariant-loop-i l = length l.costates.items ≡ l.i
