use Rattle.joined_rules.specs.JoinedParts.{NoneClose}
use Rattle.joined_rules.proofs.points.close_stop.Given as goal

abbrev pub invariant-loop-k : goal.invariant-loop-k
invariant-loop-k l = NoneClose l.stops l.start l.k
