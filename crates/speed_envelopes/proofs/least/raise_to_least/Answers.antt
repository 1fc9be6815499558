use Rattle.speed_envelopes.proofs.Lacks.{floored_lack, settles, least_by}
use Rattle.speed_envelopes.proofs.least.raise_to_least.Goals as goal

pub settle-settled-requires : goal.settle-settled-requires
settle-settled-requires c = rw c.new-bounds.ensures (floored_lack c.args.rules.now c.args.narrow.now c.args.levels.now c.requires.lacks)

pub prove-unreachable-requires : goal.prove-unreachable-requires
prove-unreachable-requires c =
    settles c.args.rules.now c.args.narrow.now c.args.levels.now (rw c.new-bounds.ensures at c.known.ensures) c.requires.some c.requires.lacks (rw c.new-bounds.ensures at c.if-prove.ensures.none)

pub returns : goal.returns
returns c =
    least_by c.args.rules.now c.args.narrow.now c.args.levels.now c.settle-settled.new.levels c.complement.new.levels (rw c.new-bounds.ensures at c.known.ensures) c.requires.some c.requires.lacks
    (rw c.new-bounds.ensures at c.if-prove.ensures.kept) c.if-prove.ensures.below (rw c.new-bounds.ensures at c.if-prove.ensures.greatest) (rw c.top.ensures.value at c.complement.ensures)
