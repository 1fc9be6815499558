use Rattle.event_file.proofs.CountsRead.{Reads}
use Rattle.event_file.proofs.counts.read_counts.Given as goal

abbrev pub invariant-loop-count : goal.invariant-loop-count
invariant-loop-count l = Reads l.initial.fields l.counts l.count-index l.fields
