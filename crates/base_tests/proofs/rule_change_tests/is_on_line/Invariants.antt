use Rattle.std.proofs.Common.{ℕ, ◌<◌, ◌≤◌, get_or}
use Rattle.base_tests.proofs.rule_change_tests.is_on_line.Given as goal

abbrev pub invariant-loop-k : goal.invariant-loop-k
invariant-loop-k l = record { on_line : (j : ℕ) → j < l.k → (l.from ≤ get_or l.rules.places j 0) × (get_or l.rules.places j 0 ≤ l.to) }
