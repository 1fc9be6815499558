use Rattle.std.proofs.Common.{ℕ, ◌≡◌, ◌<◌, ◌≤◌, ◌≤ℤ◌, ◌-◌, pos, length}
use Rattle.line_file.specs.Shape.{section_at}
use Rattle.joined_rules.proofs.sections.least_from.Given as goal

-- so far
abbrev pub invariant-loop-k : goal.invariant-loop-k
invariant-loop-k l = record {
  after : l.first < l.k;
  within : l.k ≤ length l.sections;
  below : (j : ℕ) → l.first ≤ j → j < l.k → pos l.least ≤ℤ (section_at l.sections j).value;
  reached : (j : ℕ) × (l.first ≤ j) × (j < length l.sections) × ((section_at l.sections j).from < l.end) × (pos l.least ≡ (section_at l.sections j).value);
}

abbrev pub decreases-loop-k : goal.decreases-loop-k
decreases-loop-k l = length l.sections - l.k
