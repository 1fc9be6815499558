use Rattle.std.proofs.Common.{◌∙◌, refl, arith}
use Rattle.bound_specs.specs.Chains.{value_at}
use Rattle.bound_specs.specs.Links.{low_cost}
use Rattle.price_rounds.specs.Rounds.{pricing}
use Rattle.planner.proofs.refine.renewed.Goals as goal

pub bound-value-requires-clause-start : goal.bound-value-requires-clause-start
bound-value-requires-clause-start g c = c.in_ok-renew.ensures.counts 0 (omega (arith, c.requires.last)) ∙ c.requires.start

pub returns : goal.returns
returns g c =
    let before = c.requires.before in
    let low = low_cost (pricing (g.C.StepCost.cost c.args.cost.now) c.args.rules.now c.args.valued.prices) in
    let potentials = c.in_ok-renew.ensures.again low before.0 (λ i a b lt. rw (c.make-front.ensures, c.make-priced.ensures) refl) (rw c.make-front.ensures before.1) before.2.potentials in
    record {
      timings = before.2.timings;
      potentials = potentials;
      value = (value_at c.renew.new.self 0 0, potentials.least 0 0 (omega (arith, c.requires.last)) (omega (arith, c.requires.start)), c.bound-value.ensures.value);
      small = c.bound-value.ensures.small;
    }
