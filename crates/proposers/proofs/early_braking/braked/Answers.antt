use Rattle.std.proofs.Common.{get_or}
use Rattle.proposers.specs.Offers.{braked_at}
use Rattle.proposers.proofs.Lists.{images-more}
use Rattle.proposers.proofs.early_braking.braked.Goals as goal

pub loop-k-preserved : goal.loop-k-preserved
loop-k-preserved c =
    rw c.in_ok-push.ensures.items (images-more (λ k. braked_at (get_or c.args.speeds.now k 0) k c.args.stop c.args.d) c.loop-k.lowered.items c.loop-k.k
    c.braked_speed.result c.loop-k.invariant c.braked_speed.ensures)
