use Rattle.std.proofs.Common.{length, ◌-◌, ◌<◌, ◌≤◌, slice_index}
use Rattle.rule_changes.proofs.advance.last_at.Given as goal

abbrev pub invariant-loop-k : goal.invariant-loop-k
invariant-loop-k l = (l.k < length l.places) × (slice_index l.places l.k ≤ l.place)

abbrev pub decreases-loop-k : goal.decreases-loop-k
decreases-loop-k l = length l.places - l.k
