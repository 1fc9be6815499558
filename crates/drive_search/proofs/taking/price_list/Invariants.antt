use Rattle.std.proofs.Common.{◌≡◌, ◌≤◌, ◌^◌, ℕ, length, slice_index}
use Rattle.drive_search.proofs.taking.price_list.Given as goal

abbrev pub invariant-loop-j : goal.invariant-loop-j
invariant-loop-j l = record {
  count : length l.list.items ≡ l.j;
  in_range : (k : ℕ) → slice_index l.list.items k ≤ 2 ^ 50;
}
