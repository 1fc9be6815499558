use Rattle.std.proofs.Common.{length, ◌-◌, ◌≤◌, take}
use Rattle.edge_io.specs.Faults.{Appends}
use Rattle.edge_io.proofs.sink.put_all.Given as goal

abbrev pub invariant-loop-at : goal.invariant-loop-at
invariant-loop-at g l = (l.at ≤ length l.text) × Appends (g.K.Sink.written l.initial.sink) (take l.at l.text) (g.K.Sink.written l.sink)
    × (g.K.Sink.faults l.initial.sink ≤ g.K.Sink.faults l.sink)

abbrev pub decreases-loop-at : goal.decreases-loop-at
decreases-loop-at g l = length l.text - l.at
