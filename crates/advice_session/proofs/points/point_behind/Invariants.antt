use Rattle.std.proofs.Common.{◌≤◌, get_or, ℕ, ◌<◌}
use Rattle.advice_session.proofs.points.point_behind.Given as goal

abbrev pub invariant-loop-k : goal.invariant-loop-k
invariant-loop-k l = (j : ℕ) → j < l.k → get_or l.rules.places j 0 ≤ l.place
