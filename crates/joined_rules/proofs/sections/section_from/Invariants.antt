use Rattle.std.proofs.Common.{◌<◌, ◌≤◌, ◌-◌, length}
use Rattle.line_file.specs.Shape.{section_at}
use Rattle.joined_rules.proofs.sections.section_from.Given as goal

abbrev pub invariant-loop-k : goal.invariant-loop-k
invariant-loop-k l = record { there : l.k < length l.sections; begun : (section_at l.sections l.k).from ≤ l.place }

abbrev pub decreases-loop-k : goal.decreases-loop-k
decreases-loop-k l = length l.sections - l.k
