use Rattle.std.proofs.Common.{◌∙◌, ◌*◌, ◌-◌, ◌≡◌, arith, ap, refl, rules}
use Rattle.std.proofs.lemmas.Int.{ints}
use Rattle.rail_specs.specs.declared.Narrow.{Narrow}
use Rattle.speed_envelopes.specs.Narrowing.{capped}
use Rattle.phase_composer.specs.Best.{Beats, IsTimely, NoneOnTimeUnder}
use Rattle.phase_composer.proofs.FamilyLemmas.{none-nests, beats-lower, cap-narrower}
use Rattle.phase_composer.proofs.CapLemmas.{timely-under, tens-start, tens-lower, tens-more, tens-none}
use Rattle.phase_composer.proofs.caps.try_tens.Goals as goal

pub loop-tens-init : goal.loop-tens-init
loop-tens-init g c =
    let r = c.args.rules.now in
    let d = c.args.greatest.now in
    let cost = g.C.StepCost.cost c.args.cost.now in
    let most = rw c.speeds-speeds.ensures at c.fastest-most.ensures.above in
    record {
      some = c.tens_above-tens.ensures.some;
      most = c.tens_above-tens.ensures.most;
      narrow = c.under_cap.ensures;
      timely = rw (c.under_cap.ensures, c.in_ok-drive.ensures, c.speeds-speeds.ensures)
          (timely-under r d c.fastest-most.result (10 * c.tens_above-tens.result) c.narrowings_nest.ensures.drive c.known.ensures c.requires.greatest most c.tens_above-tens.ensures.above);
      beats = tens-start cost r d c.fastest-most.result c.tens_above-tens.result c.args.best.now.cost c.narrowings_nest.ensures.drive c.known.ensures c.requires.greatest.greatest
          most c.fastest-most.ensures.small c.tens_above-tens.ensures.above c.requires.beats;
      kept = c.requires.kept;
      no_worse = omega (arith, ints);
    }

pub returns-in_default-clause-none : goal.returns-in_default-clause-none
returns-in_default-clause-none g c = λ x a b.
    let late = rw c.in_default.is at c.in_ok-lower.ensures.none in
    let cap = ap (λ (n : Narrow). n.cap) c.loop-tens.invariant.narrow in
    none-nests c.args.rules.now (capped x) (capped (10 * (c.loop-tens.tens - 1))) c.narrowings_nest.ensures.nest (cap-narrower x _ (omega arith))
    (rw c.under_cap-in-loop-tens.ensures at late)

pub returns-in_default-clause-last : goal.returns-in_default-clause-last
returns-in_default-clause-last g c =
    rw c.loop-tens.invariant.narrow (beats-lower (g.C.StepCost.cost c.args.cost.now) c.args.rules.now (capped (10 * c.loop-tens.tens)) c.loop-tens.best.cost c.tried.new.best.cost c.tried.ensures.no_worse
    (c.loop-tens.invariant.beats c.loop-tens.tens (omega arith) c.loop-tens.invariant.most))

pub returns-in_default-clause-beats : goal.returns-in_default-clause-beats
returns-in_default-clause-beats g c =
    let late = rw c.in_default.is at c.in_ok-lower.ensures.none in
    tens-none (g.C.StepCost.cost c.args.cost.now) c.args.rules.now c.loop-tens.tens c.loop-tens.best.cost c.tried.new.best.cost c.narrowings_nest.ensures.nest c.tried.ensures.no_worse
    c.loop-tens.invariant.beats (rw c.under_cap-in-loop-tens.ensures at late)

pub loop-tens-preserved : goal.loop-tens-preserved
loop-tens-preserved g c =
    let found = rw c.in-Some.is at c.in_ok-lower.ensures.some in
    record {
      some = omega arith;
      most = omega (arith, c.loop-tens.invariant.most);
      narrow = found.0 ∙ c.under_cap-in-loop-tens.ensures;
      timely = rw found.0 found.1;
      beats = tens-more (g.C.StepCost.cost c.args.cost.now) c.args.rules.now c.loop-tens.tens c.loop-tens.best.cost c.tried.new.best.cost c.tried.ensures.no_worse
          c.loop-tens.invariant.beats (rw c.under_cap-in-loop-tens.ensures at c.in_ok-lower.ensures.beats);
      kept = c.tried.ensures.kept;
      no_worse = omega (arith, ints, c.tried.ensures.no_worse, c.loop-tens.invariant.no_worse);
    }

pub returns-clause-last : goal.returns-clause-last
returns-clause-last g c = rw c.loop-tens.invariant.narrow (c.loop-tens.invariant.beats c.loop-tens.tens (omega arith) c.loop-tens.invariant.most)

pub returns-clause-beats : goal.returns-clause-beats
returns-clause-beats g c = λ t a b. c.loop-tens.invariant.beats t (omega arith) b
