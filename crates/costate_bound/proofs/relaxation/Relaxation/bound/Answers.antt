use Rattle.std.proofs.Common.{◌≡◌, ◌∙◌, sym, subst, arith, to_z, of_z}
use Rattle.std.specs.Prelude.{ℤ}
use Rattle.std.specs.Int.{w128}
use Rattle.std.proofs.lemmas.Int.{ints}
use Rattle.rail_specs.specs.Cost.{IsBound}
use Rattle.costate_bound.proofs.Soundness.{bound_holds}
use Rattle.costate_bound.proofs.relaxation.Relaxation.bound.Goals as goal

pub returns-clause-bounds : goal.returns-clause-bounds
returns-clause-bounds c = λ cost covers.
    let x = c.args.self.now in
    let low = c.args.ranges.now.low in
    let high = c.args.ranges.now.high in
    let same : to_z w128 (of_z w128 c.charged.result) ≡ c.charged.result = omega (arith, ints, c.charged.ensures.small) in
    subst (λ (b : ℤ). IsBound cost x.rules b) (sym (same ∙ c.charged.ensures.value))
    (bound_holds x low high c.known.ensures.whole c.known.ensures.by_parts c.requires cost covers)
