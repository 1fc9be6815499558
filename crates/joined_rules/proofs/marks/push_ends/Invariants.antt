use Rattle.std.proofs.Common.{◌≡◌, ◌++◌, map, take}
use Rattle.joined_rules.proofs.marks.push_ends.Given as goal

abbrev pub invariant-loop-section : goal.invariant-loop-section
invariant-loop-section l = l.marks.items ≡ l.fn.marks.items ++ map (λ s. s.to) (take l.section-index l.sections)
