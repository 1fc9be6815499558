use Rattle.std.proofs.Common.{ℕ, ◌<◌, ◌≤◌, get_or}
use Rattle.phase_composer.proofs.caps.fastest.Given as goal

abbrev pub invariant-loop-speed : goal.invariant-loop-speed
invariant-loop-speed l = record {
  above : (k : ℕ) → k < l.speed-index → get_or l.speeds k 0 ≤ l.most;
  small : l.most ≤ 12000;
}
