use Rattle.std.proofs.Common.{◌≡◌, length}
use Rattle.costate_search.proofs.ramp_rounds.forward.Given as goal

abbrev pub invariant-loop-j : goal.invariant-loop-j
invariant-loop-j l = length l.all.items ≡ l.j
