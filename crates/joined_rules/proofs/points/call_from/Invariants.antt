use Rattle.std.proofs.Common.{ℕ, ◌<◌, ◌≤◌, ◌-◌, length}
use Rattle.line_file.specs.Shape.{call_at}
use Rattle.joined_rules.proofs.points.call_from.Given as goal

abbrev pub invariant-loop-k : goal.invariant-loop-k
invariant-loop-k l = record { within : l.k ≤ length l.calls; before : (j : ℕ) → j < l.k → (call_at l.calls j).place < l.place }

abbrev pub decreases-loop-k : goal.decreases-loop-k
decreases-loop-k l = length l.calls - l.k
