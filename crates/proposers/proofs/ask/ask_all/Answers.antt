use Rattle.std.proofs.Common.{arith}
use Rattle.std.proofs.lemmas.Int.{ints, to_z-of_z}
use Rattle.proposers.proofs.Asking.{asked-more, asked-room, asked-start}
use Rattle.proposers.proofs.ask.ask_all.Goals as goal

pub loop-offer-init : goal.loop-offer-init
loop-offer-init g c = record {
  asked = asked-start (g.C.StepCost.cost c.args.cost.now) c.args.rules.now _ c.args.best.now c.requires.kept;
  least = omega (arith, ints, c.cost_of_kept-least.ensures);
}

pub next_offer-requires : goal.next_offer-requires
next_offer-requires g c = asked-room _ _ _ _ _ _ _ c.loop-offer.invariant.asked c.requires.room

pub loop-offer-preserved : goal.loop-offer-preserved
loop-offer-preserved g c =
    let took = rw c.in-Some.is at c.in_ok-offer.ensures in
    record {
      asked = asked-more _ _ _ _ _ _ _ _ c.in-Some.offer _ c.loop-offer.invariant.asked took.taken c.keep_cheaper-least.ensures.kept c.keep_cheaper-least.ensures.no_worse c.keep_cheaper-least.ensures.beats;
      least = first_of (omega (arith, ints, c.keep_cheaper-least.ensures.least), grind (arith, ints, to_z-of_z, c.keep_cheaper-least.ensures.least));
    }
