use Rattle.std.proofs.Common.{ℕ, ◌≡◌, ◌<◌, get_or, length}
use Rattle.speed_envelopes.specs.Capped.{IsCeiling}
use Rattle.speed_envelopes.proofs.greatest.ceilings.Given as goal

abbrev pub invariant-loop-k : goal.invariant-loop-k
invariant-loop-k l = record {
  count : length l.speeds.items ≡ l.k;
  each : (j : ℕ) → j < l.k → IsCeiling l.rules l.narrow j (get_or l.speeds.items j 0);
}
