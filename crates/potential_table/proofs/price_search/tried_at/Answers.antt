use Rattle.std.proofs.Common.{◌≡◌, ◌<◌, ◌+◌, length, sym, arith}
use Rattle.bound_specs.specs.Links.{Pricing}
use Rattle.link_costs.proofs.BoundLemmas.{timing_count}
use Rattle.potential_table.proofs.PriceLines.{no_value}
use Rattle.potential_table.proofs.price_search.tried_at.Goals as goal

pub returns-in-None-clause-none : goal.returns-in-None-clause-none
returns-in-None-clause-none g c =
    let count = timing_count c.args.rules.now c.args.prices.now c.requires.prices in
    no_value (record { cost = g.C.StepCost.cost c.args.cost.now; rules = c.args.rules.now; prices = c.args.prices.now }) c.args.timing
    (omega (arith, c.requires.timing, count, c.known-2.ensures.prices.equal)) (omega (arith, c.requires.timing, count)) c.args.cells.now c.args.price
    c.in_ok-here.here c.in_ok-here.ensures c.in-None.is

pub returns-in-None-above-clause-none : goal.returns-in-None-above-clause-none
returns-in-None-above-clause-none g c =
    let count = timing_count c.args.rules.now c.args.prices.now c.requires.prices in
    no_value (record { cost = g.C.StepCost.cost c.args.cost.now; rules = c.args.rules.now; prices = c.args.prices.now }) c.args.timing
    (omega (arith, c.requires.timing, count, c.known-2.ensures.prices.equal)) (omega (arith, c.requires.timing, count)) c.args.cells.now (c.args.price + 1)
    c.in_ok-above.above c.in_ok-above.ensures c.in-None-above.is
