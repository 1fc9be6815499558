use Rattle.std.proofs.Common.{◌∙◌, ◌*◌, ◌-◌, ◌≡◌, ◌≤◌, arith, ap, refl, sym, rules}
use Rattle.std.proofs.lemmas.Int.{ints}
use Rattle.phase_composer.proofs.CoastingLemmas.{CoastLeft, left-start, left-same, left-anew, left-narrower, left-none, left-more, coasting-more}
use Rattle.phase_composer.proofs.coasting.try_coasting_under.Goals as goal
use Rattle.phase_composer.proofs.coasting.try_coasting_under.Goals.{then-narrow-stop+in_ok-copy, else-narrow-stop}

pub loop-k-init : goal.loop-k-init
loop-k-init g c = record {
  most = omega arith;
  left = left-start c.args.rules.now c.args.under.now.narrow.cap 64;
  beats = λ k n a b h. absurd (omega arith);
  kept = c.requires.kept;
  no_worse = omega (arith, ints);
}

pub tried_from-requires-clause-narrower : goal.tried_from-requires-clause-narrower
tried_from-requires-clause-narrower g c =
    let cap = c.args.under.now.narrow.cap in
    let left : CoastLeft c.args.rules.now cap c.loop-k.k c.coasting-narrow.result.idle_to c.if-narrow-stop.known = elim c.if-narrow-stop.branch [
      | then-narrow-stop+in_ok-copy w ↦ left-anew c.args.rules.now cap c.loop-k.k c.coasting-narrow.result.idle_to c.if-narrow-stop.known w.in_ok-copy.field-0 w.known-is
          (w.in_ok-copy.ensures.narrow ∙ c.requires.cap) (rw (w.in_ok-copy.ensures.narrow, w.in_ok-copy.ensures.drive) c.requires.timely)
      | else-narrow-stop w ↦ left-same c.args.rules.now cap c.loop-k.k c.loop-k.stop c.coasting-narrow.result.idle_to c.loop-k.known c.if-narrow-stop.known w.known-is
          w.if-narrow-stop.false c.loop-k.invariant.left
    ] in
    left-narrower c.args.rules.now cap c.loop-k.k c.coasting-narrow.result c.if-narrow-stop.known left (omega arith) c.coasting-narrow.ensures

pub tried_from-requires-clause-none : goal.tried_from-requires-clause-none
tried_from-requires-clause-none g c =
    let cap = c.args.under.now.narrow.cap in
    let left : CoastLeft c.args.rules.now cap c.loop-k.k c.coasting-narrow.result.idle_to c.if-narrow-stop.known = elim c.if-narrow-stop.branch [
      | then-narrow-stop+in_ok-copy w ↦ left-anew c.args.rules.now cap c.loop-k.k c.coasting-narrow.result.idle_to c.if-narrow-stop.known w.in_ok-copy.field-0 w.known-is
          (w.in_ok-copy.ensures.narrow ∙ c.requires.cap) (rw (w.in_ok-copy.ensures.narrow, w.in_ok-copy.ensures.drive) c.requires.timely)
      | else-narrow-stop w ↦ left-same c.args.rules.now cap c.loop-k.k c.loop-k.stop c.coasting-narrow.result.idle_to c.loop-k.known c.if-narrow-stop.known w.known-is
          w.if-narrow-stop.false c.loop-k.invariant.left
    ] in
    left-none c.args.rules.now cap c.loop-k.k c.coasting-narrow.result c.if-narrow-stop.known left (omega arith) c.coasting-narrow.ensures

pub loop-k-preserved : goal.loop-k-preserved
loop-k-preserved g c =
    let cap = c.args.under.now.narrow.cap in
    let stop : c.if-narrow-stop.stop ≡ c.coasting-narrow.result.idle_to = elim c.if-narrow-stop.branch [
      | then-narrow-stop+in_ok-copy w ↦ w.stop-is
      | else-narrow-stop w ↦ w.stop-is ∙ sym w.if-narrow-stop.false
    ] in
    let left = left-more c.args.rules.now cap c.loop-k.k c.coasting-narrow.result c.in_ok-known.known c.narrowings_nest.ensures.nest (omega arith) c.coasting-narrow.ensures
    c.in_ok-known.ensures.some c.in_ok-known.ensures.none in
    record {
      most = omega (arith, c.loop-k.invariant.most);
      left = rw stop left;
      beats = coasting-more (g.C.StepCost.cost c.args.cost.now) c.args.rules.now cap c.loop-k.k c.coasting-narrow.result c.loop-k.best.cost c.tried_from.new.best.cost
          c.tried_from.ensures.no_worse (omega arith) c.loop-k.invariant.beats c.coasting-narrow.ensures c.in_ok-known.ensures.beats;
      kept = c.tried_from.ensures.kept;
      no_worse = omega (arith, ints, c.tried_from.ensures.no_worse, c.loop-k.invariant.no_worse);
    }

pub returns-clause-beats : goal.returns-clause-beats
returns-clause-beats g c = λ k n a b h. c.loop-k.invariant.beats k n (omega arith) b h
