use Rattle.std.proofs.Common.{arith}
use Rattle.edge_io.proofs.Putting.{put-step}
use Rattle.edge_io.proofs.sink.put_all.Goals as goal

pub loop-at-preserved : goal.loop-at-preserved
loop-at-preserved g c =
    let m = c.loop-at.invariant in
    let step =
    put-step (g.K.Sink.written c.args.sink.now) (g.K.Sink.written c.loop-at.sink) (g.K.Sink.written c.put.new.self)
    c.args.text.now c.loop-at.at c.in_ok-count.count m.0 m.1 c.in_ok-count.ensures.puts in
    (step.0, step.1, omega (arith, m.2, c.in_ok-count.ensures.cause.later))
