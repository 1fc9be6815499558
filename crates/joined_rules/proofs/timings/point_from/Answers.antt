use Rattle.std.proofs.Common.{arith}
use Rattle.joined_rules.proofs.JoinedTimings.{at_place}
use Rattle.joined_rules.proofs.timings.point_from.Goals as goal

pub returns-clause-at : goal.returns-clause-at
returns-clause-at c = at_place c.args.places.now c.loop-k.k c.args.place c.requires.rising c.loop-k.invariant.before c.loop-k.invariant.there (omega arith) c.requires.there
