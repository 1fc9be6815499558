use Rattle.std.proofs.Common.{ℕ, ◌<◌, ◌≤◌, ◌≡◌, ◌+◌, get_or, length}
use Rattle.speed_cells.proofs.cells.Cells.whole.Given as goal

abbrev pub invariant-loop-first : goal.invariant-loop-first
invariant-loop-first l = record {
  firsts : length l.firsts.items ≡ l.first-index;
  lasts : length l.lasts.items ≡ l.first-index;
  starts : length l.starts.items ≡ l.first-index + 1;
  first : (k : ℕ) → k < l.first-index → get_or l.firsts.items k 0 ≡ (get_or l.pairs k (0, 0)).0;
  last : (k : ℕ) → k < l.first-index → get_or l.lasts.items k 0 ≡ (get_or l.pairs k (0, 0)).1;
  start : (k : ℕ) → k ≤ l.first-index → get_or l.starts.items k 0 ≡ k;
}
