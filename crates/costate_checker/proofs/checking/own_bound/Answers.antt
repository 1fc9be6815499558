use Rattle.std.proofs.Common.{◌≡◌, ◌∙◌, ap, sym, subst, to_z, of_z, arith, ℤ}
use Rattle.std.specs.Int.{w128}
use Rattle.std.proofs.lemmas.Int.{ints}
use Rattle.rail_specs.specs.Cost.{IsBound}
use Rattle.costate_bound.specs.Costs.{CoversWork}
use Rattle.costate_bound.specs.Relaxation.{Relaxation, costate_bound}
use Rattle.costate_checker.specs.Holds.{relaxation_in}
use Rattle.costate_checker.proofs.HoldLemmas.{relaxation_is}
use Rattle.costate_checker.proofs.checking.own_bound.Goals as goal

pub returns-clause-value : goal.returns-clause-value
returns-clause-value c =
    let r = c.args.rules.now in
    let d = c.args.certificate.now in
    let low = c.args.ranges.now.low in
    let high = c.args.ranges.now.high in
    let same : to_z w128 (of_z w128 c.bound.result) ≡ c.bound.result = omega (arith, ints, c.bound.ensures.small) in
    let is : c.make-relaxation.result ≡ relaxation_in r c.args.share d =
    c.make-relaxation.ensures ∙ relaxation_is r c.args.share d c.args.prices.now c.items.result.now c.items-2.result.now c.requires.timings c.requires.prices c.items.ensures c.items-2.ensures in
    same ∙ (c.bound.ensures.value ∙ ap (λ (x : Relaxation). costate_bound x low high) is)

pub returns-clause-bounds : goal.returns-clause-bounds
returns-clause-bounds c = λ cost covers.
    let r = c.args.rules.now in
    let d = c.args.certificate.now in
    let same : to_z w128 (of_z w128 c.bound.result) ≡ c.bound.result = omega (arith, ints, c.bound.ensures.small) in
    let is : c.make-relaxation.result ≡ relaxation_in r c.args.share d =
    c.make-relaxation.ensures ∙ relaxation_is r c.args.share d c.args.prices.now c.items.result.now c.items-2.result.now c.requires.timings c.requires.prices c.items.ensures c.items-2.ensures in
    let bounds = subst (λ (x : Relaxation). (cost : ℤ → ℤ) → CoversWork x.share cost → IsBound cost x.rules c.bound.result) is c.bound.ensures.bounds in
    subst (λ (b : ℤ). IsBound cost r b) (sym same) (bounds cost covers)
