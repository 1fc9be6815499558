use Rattle.std.proofs.Common.{ℕ, ◌≡◌, ◌<◌, ◌≤◌, ◌+◌, length, get_or, pos}
use Rattle.line_file.specs.Shape.{section_at}
use Rattle.joined_rules.specs.Joined.{LiesIn}
use Rattle.joined_rules.proofs.sections.values_of_steps.Given as goal

abbrev pub invariant-loop-i : goal.invariant-loop-i
invariant-loop-i l = record {
  count : length l.values.items + 1 ≡ l.i;
  there : l.k < length l.sections;
  begun : (section_at l.sections l.k).from ≤ get_or l.places (length l.values.items) 0;
  each : (j : ℕ) → j < length l.values.items → LiesIn l.sections (get_or l.places j 0) (get_or l.places (j + 1) 0) (get_or l.values.items j (pos 0));
}
