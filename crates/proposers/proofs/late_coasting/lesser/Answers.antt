use Rattle.std.proofs.Common.{min, get_or}
use Rattle.proposers.proofs.Lists.{images-more}
use Rattle.proposers.proofs.late_coasting.lesser.Goals as goal

pub loop-k-preserved : goal.loop-k-preserved
loop-k-preserved c =
    rw c.in_ok-push.ensures.items (images-more (λ k. min (get_or c.args.first.now k 0) (get_or c.args.second.now k 0)) c.loop-k.speeds.items c.loop-k.k
    c.min.result c.loop-k.invariant c.min.ensures)
