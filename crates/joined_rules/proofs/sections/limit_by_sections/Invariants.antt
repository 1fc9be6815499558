use Rattle.std.proofs.Common.{ℕ, ◌≡◌, ◌<◌, ◌≤◌, ◌+◌, [], length, get_or}
use Rattle.line_file.specs.Shape.{section_at}
use Rattle.joined_rules.specs.Joined.{IsLeastLimit}
use Rattle.joined_rules.proofs.sections.limit_by_sections.Given as goal

abbrev pub invariant-loop-i : goal.invariant-loop-i
invariant-loop-i l = record {
  count : length l.limits.items ≡ length l.fn.limits.items;
  there : l.k < length l.sections;
  behind : (j : ℕ) → j < l.k → (section_at l.sections j).to + l.metres ≤ get_or l.places l.i 0;
  each : (j : ℕ) → j < l.i → IsLeastLimit l.sections [] l.metres (get_or l.places j 0) (get_or l.places (j + 1) 0) (get_or l.limits.items j 0);
}
