use Rattle.edge_io.proofs.Streams.{write-step}
use Rattle.edge_io.proofs.out_sink.write_front.Goals as goal

pub loop-at-preserved : goal.loop-at-preserved
loop-at-preserved g c =
    let m = c.loop-at.invariant in
    write-step (g.W.Write.contents c.args.out.now) (g.W.Write.contents c.loop-at.out) (g.W.Write.contents c.write_again.new.out)
    c.args.piece.now c.loop-at.at c.in-Ok.count
    m.0 c.in-Ok.ensures.bound m.1 c.in-Ok.ensures.taken
