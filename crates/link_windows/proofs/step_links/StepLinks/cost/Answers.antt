use Rattle.std.proofs.Common.{◌∙◌, refl, to_z, of_z}
use Rattle.std.specs.Int.{w64}
use Rattle.bound_specs.specs.Prices.{step_price}
use Rattle.rail_specs.specs.Rules.{step_at}
use Rattle.link_costs.specs.Soundness.{pricing_of}
use Rattle.link_costs.proofs.LinkLemmas.{low_is, short_is}
use Rattle.link_windows.proofs.step_links.StepLinks.cost.Goals as goal

pub returns-clause-value : goal.returns-clause-value
returns-clause-value g c =
    let d = c.args.self.now in
    low_is (pricing_of g.C.StepCost.cost d.priced) d.step c.args.a c.args.b (to_z w64 (of_z w64 c.work.result)) c.charged.result (step_price d.priced.prices d.step)
    (step_at d.priced.rules d.step).metres c.requires.possible (short_is c.work.result c.work.ensures.small ∙ c.work.ensures.value) refl refl c.charged.ensures.value c.charged.ensures.small
