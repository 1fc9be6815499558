use Rattle.joined_rules.proofs.JoinedTimings.{TimedTo}
use Rattle.joined_rules.proofs.timings.timings_of_calls.Given as goal

abbrev pub invariant-loop-j : goal.invariant-loop-j
invariant-loop-j l = TimedTo l.calls l.places l.clock l.j l.point l.timings.items
