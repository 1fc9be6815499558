use Rattle.std.proofs.Common.{ℕ, ◌≡◌, ◌<◌, ◌≤◌, ◌+◌, get_or}
use Rattle.speed_envelopes.proofs.least.complement.Given as goal

abbrev pub invariant-loop-level : goal.invariant-loop-level
invariant-loop-level l = record {
  done : (k : ℕ) → k < l.level-index → get_or l.levels k 0 + get_or l.fn.levels k 0 ≡ l.top;
  left : (k : ℕ) → l.level-index ≤ k → get_or l.levels k 0 ≡ get_or l.fn.levels k 0;
}
