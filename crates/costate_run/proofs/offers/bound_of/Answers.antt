use Rattle.std.proofs.Common.{◌≡◌, ◌∙◌, ap, sym, subst, to_z, of_z, arith, ℤ}
use Rattle.std.specs.Int.{w128}
use Rattle.std.proofs.lemmas.Int.{ints}
use Rattle.rail_specs.specs.Cost.{IsBound}
use Rattle.costate_bound.specs.Costs.{CoversWork}
use Rattle.costate_bound.specs.Relaxation.{Relaxation, costate_bound}
use Rattle.costate_run.proofs.offers.bound_of.Goals as goal

pub returns-clause-value : goal.returns-clause-value
returns-clause-value c =
    let low = c.args.ranges.now.low in
    let high = c.args.ranges.now.high in
    let same : to_z w128 (of_z w128 c.bound.result) ≡ c.bound.result = omega (arith, ints, c.bound.ensures.small) in
    same ∙ (c.bound.ensures.value ∙ ap (λ (x : Relaxation). costate_bound x low high) c.make-relaxation.ensures)

pub returns-clause-bounds : goal.returns-clause-bounds
returns-clause-bounds c = λ cost covers.
    let same : to_z w128 (of_z w128 c.bound.result) ≡ c.bound.result = omega (arith, ints, c.bound.ensures.small) in
    let bounds = subst (λ (x : Relaxation). (cost : ℤ → ℤ) → CoversWork x.share cost → IsBound cost x.rules c.bound.result) c.make-relaxation.ensures c.bound.ensures.bounds in
    subst (λ (b : ℤ). IsBound cost c.args.rules.now b) (sym same) (bounds cost covers)
