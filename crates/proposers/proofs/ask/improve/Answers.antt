use Rattle.std.proofs.Common.{rules}
use Rattle.proposers.proofs.Improving.{improving-box}
use Rattle.proposers.proofs.ask.improve.Goals as goal

pub loop-i-preserved : goal.loop-i-preserved
loop-i-preserved g c =
    improving-box _ _ c.args.rules.now c.args.boxes.now.items c.loop-i.boxes.items c.args.best.now c.loop-i.best c.begin_and_ask.new.best c.loop-i.i
    c.begin_and_ask.new.one c.index_mut.result.now c.loop-i.invariant (search rules) c.index_mut.ensures.value c.in_ok-begin_and_ask.ensures.improves
    c.begin_and_ask.ensures.kept c.begin_and_ask.ensures.no_worse
