use Rattle.std.proofs.lemmas.Bool.{OnTrue_from, OnFalse_from, OnTrue_at, OnFalse_at}
use Rattle.speed_envelopes.proofs.Drives.{greatest_by, none_by}
use Rattle.speed_envelopes.proofs.greatest.lower_to_greatest.Goals as goal

pub returns-then-not-reaches_floors-clause-none : goal.returns-then-not-reaches_floors-clause-none
returns-then-not-reaches_floors-clause-none c =
    none_by c.args.rules.now c.args.narrow.now c.args.speeds.now (rw c.new-bounds.ensures at c.known.ensures) c.requires.above (rw c.new-bounds.ensures at c.if-not-reaches_floors.ensures.none)

pub returns-clause-greatest : goal.returns-clause-greatest
returns-clause-greatest c = OnTrue_from _ _ (λ t.
    greatest_by c.args.rules.now c.args.narrow.now c.args.speeds.now c.settle.new.levels (rw c.new-bounds.ensures at c.known.ensures) c.requires.capped c.requires.above
    (OnTrue_at t (rw c.new-bounds.ensures at c.settle.ensures.kept)) (OnTrue_at t c.settle.ensures.below) (OnTrue_at t (rw c.new-bounds.ensures at c.settle.ensures.greatest)))

pub returns-clause-none : goal.returns-clause-none
returns-clause-none c = OnFalse_from _ _ (λ t.
    none_by c.args.rules.now c.args.narrow.now c.args.speeds.now (rw c.new-bounds.ensures at c.known.ensures) c.requires.above (OnFalse_at t (rw c.new-bounds.ensures at c.settle.ensures.none)))
