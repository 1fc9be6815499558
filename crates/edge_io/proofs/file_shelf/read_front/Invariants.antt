use Rattle.std.proofs.Common.{◌≤◌, ◌-◌, vec_len}
use Rattle.edge_io.proofs.Streams.{Continues}
use Rattle.edge_io.proofs.file_shelf.read_front.Given as goal

abbrev pub invariant-loop-block : goal.invariant-loop-block
invariant-loop-block g l =
    (vec_len l.bytes ≤ l.most)
    × Continues (g.F.Read.remaining l.initial.file) l.initial.bytes.items (g.F.Read.remaining l.file) l.bytes.items

abbrev pub decreases-loop-block : goal.decreases-loop-block
decreases-loop-block g l = l.most - vec_len l.bytes
