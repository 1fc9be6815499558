use Rattle.std.proofs.Common.{ℕ, ◌≡◌, ◌≤◌, ◌+◌, length, map, filter, nat_le, get_or}
use Rattle.std.specs.List.{range_with_len}
use Rattle.proposers.proofs.Lists.{Below}
use Rattle.proposers.proofs.dips.points_to_lower.Given as goal

abbrev pub invariant-loop-i : goal.invariant-loop-i
invariant-loop-i l = record {
  points : l.points.items ≡ filter (λ k. nat_le 2 (get_or l.speeds k 0)) (map (λ i. i + 1) (range_with_len 0 l.i));
  few : length l.points.items ≤ l.i;
  within : Below (length l.speeds) l.points.items;
}
