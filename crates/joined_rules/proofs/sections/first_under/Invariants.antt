use Rattle.std.proofs.Common.{ℕ, ◌<◌, ◌≤◌, ◌+◌, ◌-◌, length}
use Rattle.line_file.specs.Shape.{section_at}
use Rattle.joined_rules.proofs.sections.first_under.Given as goal

abbrev pub invariant-loop-k : goal.invariant-loop-k
invariant-loop-k l = record { there : l.k < length l.sections; behind : (j : ℕ) → j < l.k → (section_at l.sections j).to + l.metres ≤ l.place }

abbrev pub decreases-loop-k : goal.decreases-loop-k
decreases-loop-k l = length l.sections - l.k
