use Rattle.std.proofs.Common.{ℕ, ◌≡◌, ◌<◌, ◌+◌, get_or, length}
use Rattle.speed_envelopes.specs.Bounds.{least_speed}
use Rattle.speed_envelopes.proofs.least.lacks.Given as goal

abbrev pub invariant-loop-k : goal.invariant-loop-k
invariant-loop-k l = record {
  count : length l.levels.items ≡ l.k;
  each : (j : ℕ) → j < l.k → get_or l.levels.items j 0 + least_speed l.rules j ≡ l.top;
}
