use Rattle.std.proofs.Common.{ℕ, ◌≡◌, ◌<◌, ◌+◌, length, get_or}
use Rattle.joined_rules.proofs.JoinedSteps.{IsLeastOf}
use Rattle.joined_rules.proofs.sections.set_step_limits.Given as goal

abbrev pub invariant-loop-stretch : goal.invariant-loop-stretch
invariant-loop-stretch l = record {
  count : length l.limits.items + 1 ≡ length l.places;
  each : (i : ℕ) → i < length l.limits.items → IsLeastOf l.sections l.stretches l.stretch-index l.metres (get_or l.places i 0) (get_or l.places (i + 1) 0) (get_or l.limits.items i 0);
}
