use Rattle.std.proofs.Common.{to_z, of_z, ◌∙◌}
use Rattle.std.specs.Int.{w64}
use Rattle.link_costs.specs.Soundness.{pricing_of}
use Rattle.link_costs.proofs.LinkLemmas.{low_is, short_is}
use Rattle.link_costs.proofs.priced.PricedCellCost.low.Goals as goal

pub returns : goal.returns
returns g c =
    let found = c.in_ok-work.ensures.possible in
    let w = c.in_ok-work.work in
    low_is (pricing_of g.C.StepCost.cost c.args.self.now) c.args.i c.args.a c.args.b (to_z w64 (of_z w64 w)) c.charged.result
    c.price-price.result c.metres-metres.result found.0 (short_is w found.2 ∙ found.1) c.price-price.ensures.value c.metres-metres.ensures.value
    c.charged.ensures.value c.charged.ensures.small
