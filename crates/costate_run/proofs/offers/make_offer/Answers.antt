use Rattle.std.proofs.Common.{◌≡◌, ◌∙◌, ap, sym, subst, to_z, of_z, arith, ℤ}
use Rattle.std.specs.Int.{w128}
use Rattle.std.proofs.lemmas.Int.{ints}
use Rattle.rail_specs.specs.Cost.{IsBound}
use Rattle.costate_bound.specs.Relaxation.{Relaxation, costate_bound}
use Rattle.costate_run.proofs.OfferLemmas.{relaxation_is}
use Rattle.costate_run.proofs.offers.make_offer.Goals as goal

pub returns-clause-offer : goal.returns-clause-offer
returns-clause-offer c =
    let r = c.args.rules.now in
    let low = c.args.ranges.now.low in
    let high = c.args.ranges.now.high in
    let bound = c.bound_of-bound.result in
    let is = relaxation_is r c.args.share c.in_ok-priced.priced c.args.speeds.now c.args.prices.items c.as_slice-2.result.now c.args.costates.items
    c.in_ok-priced.ensures.timings (c.in_ok-priced.ensures.values ∙ c.as_slice.ensures.value) c.as_slice-2.ensures.value in
    let same : to_z w128 (of_z w128 bound) ≡ bound = omega (arith, ints, c.bound_of-bound.ensures.small) in
    record {
      prices = c.requires.prices;
      price = c.requires.low;
      costates = c.requires.costates;
      costate = c.requires.small;
      value = same ∙ (c.bound_of-bound.ensures.value ∙ ap (λ (x : Relaxation). costate_bound x low high) is);
      bounds = λ cost covers. subst (λ (b : ℤ). IsBound cost r b) (sym same) (c.bound_of-bound.ensures.bounds cost covers);
      small = omega (arith, ints, c.bound_of-bound.ensures.small);
    }
