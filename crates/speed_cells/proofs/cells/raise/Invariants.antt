use Rattle.std.proofs.Common.{◌≡◌, ℕ, ◌+◌, ◌<◌, ◌≤◌, length, get_or}
use Rattle.speed_cells.proofs.cells.raise.Given as goal

abbrev pub invariant-loop-k : goal.invariant-loop-k
invariant-loop-k l = record {
  count : length l.starts.items ≡ length l.fn.starts.items;
  begun : l.from ≤ l.k;
  below : (k : ℕ) → k < l.from → get_or l.starts.items k 0 ≡ get_or l.fn.starts.items k 0;
  raised : (k : ℕ) → l.from ≤ k → k < l.k → k < length l.fn.starts.items → get_or l.starts.items k 0 ≡ get_or l.fn.starts.items k 0 + 1;
  rest : (k : ℕ) → l.k ≤ k → get_or l.starts.items k 0 ≡ get_or l.fn.starts.items k 0;
}
