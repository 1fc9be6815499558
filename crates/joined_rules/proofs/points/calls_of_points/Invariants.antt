use Rattle.std.proofs.Common.{ℕ, ◌≡◌, ◌<◌, ◌≤◌, length, get_or}
use Rattle.line_file.specs.Shape.{call_at}
use Rattle.joined_rules.specs.Joined.{IsCallAt}
use Rattle.joined_rules.proofs.points.calls_of_points.Given as goal

abbrev pub invariant-loop-k : goal.invariant-loop-k
invariant-loop-k l = record {
  count : length l.visits.items ≡ l.k;
  within : l.next ≤ length l.calls;
  before : (j : ℕ) → j < l.next → l.k < length l.places → (call_at l.calls j).place < get_or l.places l.k 0;
  each : (i : ℕ) → i < length l.visits.items → IsCallAt l.calls l.places i (get_or l.visits.items i 0);
}
