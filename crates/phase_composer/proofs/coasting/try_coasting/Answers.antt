use Rattle.std.proofs.Common.{◌∙◌, ◌*◌, ◌-◌, ◌+◌, ◌≡◌, ◌≤◌, ◌≤ℤ◌, arith, ap, refl, sym, rules}
use Rattle.std.proofs.lemmas.Int.{ints}
use Rattle.rail_specs.specs.declared.Narrow.{Narrow}
use Rattle.speed_envelopes.specs.Narrowing.{capped}
use Rattle.phase_composer.proofs.CoastingLemmas.{BeatsBetween, between-lower, between-more, between-none, coasting-all}
use Rattle.phase_composer.proofs.coasting.try_coasting.Goals as goal

pub returns-in_default-clause-beats : goal.returns-in_default-clause-beats
returns-in_default-clause-beats g c =
    let cost = g.C.StepCost.cost c.args.cost.now in
    let r = c.args.rules.now in
    let most = rw c.speeds-speeds.ensures at c.fastest-most.ensures.above in
    let late = rw c.under_cap-in-loop-j.ensures at (rw c.in_default.is at c.in_ok-under.ensures.none) in
    let before : BeatsBetween cost r (c.loop-j.j + 1) c.highest_cap-j.result c.loop-j.best.cost = λ i a b. c.loop-j.invariant.beats i (omega arith) b in
    let found = between-none cost r c.loop-j.j c.highest_cap-j.result c.loop-j.best.cost c.tried.new.best.cost c.narrowings_nest.ensures.nest c.tried.ensures.no_worse before late in
    λ j a b. coasting-all cost r c.args.greatest c.fastest-most.result c.highest_cap-j.result c.tried.new.best.cost c.narrowings_nest.ensures.drive c.known.ensures c.requires.greatest.greatest
    most c.highest_cap-j.ensures.above (λ i x y. found i (omega arith) y) c.highest_cap-j.ensures.some j a

pub loop-j-preserved : goal.loop-j-preserved
loop-j-preserved g c =
    let cost = g.C.StepCost.cost c.args.cost.now in
    let r = c.args.rules.now in
    let most = rw c.speeds-speeds.ensures at c.fastest-most.ensures.above in
    let found = rw c.in-Some.is at c.in_ok-under.ensures.some in
    let narrow = found.0 ∙ c.under_cap-in-loop-j.ensures in
    let cap = ap (λ (n : Narrow). n.cap) narrow in
    let before : BeatsBetween cost r (c.loop-j.j + 1) c.highest_cap-j.result c.loop-j.best.cost = λ i a b. c.loop-j.invariant.beats i (omega arith) b in
    let lower : c.try_coasting_under.new.best.cost ≤ℤ c.loop-j.best.cost = omega (arith, ints, c.tried.ensures.no_worse, c.try_coasting_under.ensures.no_worse) in
    let after = between-more cost r c.loop-j.j c.highest_cap-j.result c.loop-j.best.cost c.try_coasting_under.new.best.cost lower before
    (rw cap at c.in_ok-try_coasting_under.ensures.beats) in
    record {
      most = omega (arith, c.loop-j.invariant.most);
      cap = omega arith;
      narrow = rw narrow refl;
      timely = rw found.0 found.1;
      beats = λ i a b. after i (omega arith) b;
      kept = c.try_coasting_under.ensures.kept;
      no_worse = omega (arith, ints, c.tried.ensures.no_worse, c.try_coasting_under.ensures.no_worse, c.loop-j.invariant.no_worse);
    }

pub returns-clause-beats : goal.returns-clause-beats
returns-clause-beats g c =
    let cost = g.C.StepCost.cost c.args.cost.now in
    let r = c.args.rules.now in
    let most = rw c.speeds-speeds.ensures at c.fastest-most.ensures.above in
    λ j a b. coasting-all cost r c.args.greatest c.fastest-most.result c.highest_cap-j.result c.loop-j.best.cost c.narrowings_nest.ensures.drive c.known.ensures c.requires.greatest.greatest
    most c.highest_cap-j.ensures.above (λ i x y. c.loop-j.invariant.beats i (omega arith) y) c.highest_cap-j.ensures.some j a
