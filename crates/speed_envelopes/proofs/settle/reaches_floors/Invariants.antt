use Rattle.std.proofs.Common.{ℕ, ◌≤◌, ◌<◌, get_or}
use Rattle.speed_envelopes.specs.Bounds.{floor}
use Rattle.speed_envelopes.proofs.settle.reaches_floors.Given as goal

abbrev pub invariant-loop-k : goal.invariant-loop-k
invariant-loop-k l = (j : ℕ) → j < l.k → floor l.bounds j ≤ get_or l.levels j 0
