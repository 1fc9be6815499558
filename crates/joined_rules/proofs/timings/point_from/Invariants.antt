use Rattle.std.proofs.Common.{ℕ, ◌<◌, ◌≤◌, ◌-◌, length, get_or}
use Rattle.joined_rules.proofs.timings.point_from.Given as goal

abbrev pub invariant-loop-k : goal.invariant-loop-k
invariant-loop-k l = record { from : l.first ≤ l.k; before : (j : ℕ) → j < l.k → get_or l.places j 0 < l.place; there : l.k < length l.places }

abbrev pub decreases-loop-k : goal.decreases-loop-k
decreases-loop-k l = length l.places - l.k
