use Rattle.joined_rules.specs.Joined.{ForNone, IsOutside}
use Rattle.joined_rules.proofs.layout.first_outside.Given as goal

abbrev pub invariant-loop-j : goal.invariant-loop-j
invariant-loop-j l = ForNone (IsOutside l.line l.calls) l.j
