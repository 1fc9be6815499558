use Rattle.std.proofs.Common.{◌≡◌, arith, rules}
use Rattle.bound_specs.specs.Prices.{step_price}
use Rattle.time_multipliers.proofs.PriceLemmas.{step_price-small}
use Rattle.time_multipliers.proofs.prices.Prices.step_price.Goals as goal

pub returns-in-Some-clause-small : goal.returns-in-Some-clause-small
returns-in-Some-clause-small c =
    let v : c.in-Some.price.now ≡ step_price c.args.self.now c.args.i = search rules in
    omega (arith, v, step_price-small c.args.self.now c.args.i (search rules))
