use Rattle.std.proofs.Common.{length}
use Rattle.potential_table.proofs.StartLemmas.{AreStartsTo}
use Rattle.potential_table.proofs.least.lay_out.Given as goal

-- the starts of the points so far, whose values end the list
abbrev pub invariant-loop-k : goal.invariant-loop-k
invariant-loop-k l = AreStartsTo l.starts.items l.cells l.k (length l.values.items)
