use Rattle.std.proofs.Common.{◌≡◌, ◌-◌, ◌∙◌, Option, List, length, sym, ap, subst, arith}
use Rattle.std.specs.Prelude.{ℤ}
use Rattle.rail_specs.specs.declared.Timing.{Timing}
use Rattle.bound_specs.specs.Chains.{IsAtMost}
use Rattle.bound_specs.specs.ChainValues.{IsChainValue, with_price}
use Rattle.bound_specs.specs.Prices.{Prices, AreFor}
use Rattle.chain_duality.proofs.Orders.{at_most-trans}
use Rattle.potential_table.proofs.PriceLines.{value_unique, same_prices}
use Rattle.price_rounds.specs.Rounds.{pricing}
use Rattle.price_rounds.proofs.AloneLemmas.{valued_by, one_valued, beats_on, beats_alone, single_alone, single_last}
use Rattle.price_rounds.proofs.rounds.find_prices.Goals as goal

-- one timing point: the length that the code read
pub returns-then-timings-eq1-clause-last : goal.returns-then-timings-eq1-clause-last
returns-then-timings-eq1-clause-last g c =
    let one : length c.args.rules.now.timings ≡ 1 = omega (arith, c.if-timings-eq1.true, ap length c.timings-timings.ensures.value) in
    single_last c.args.rules.now c.in_ok-alone.alone.prices c.known-then-timings-eq1.ensures.prices c.in_ok-alone.ensures.valued.timings
    (g.C.StepCost.cost c.args.cost.now) c.args.cells.now c.in_ok-alone.alone.value one (c.in_ok-alone.ensures.each 0 (omega (arith, one)))

pub returns-then-timings-eq1-clause-alone : goal.returns-then-timings-eq1-clause-alone
returns-then-timings-eq1-clause-alone g c prices are for_r alone =
    beats_alone c.args.rules.now prices are for_r (g.C.StepCost.cost c.args.cost.now) c.args.cells.now c.in_ok-alone.alone.value alone c.known.ensures.some_timings
    c.in_ok-alone.ensures.each

pub returns-then-timings-eq1-clause-no_less : goal.returns-then-timings-eq1-clause-no_less
returns-then-timings-eq1-clause-no_less g c =
    let one : length c.args.rules.now.timings ≡ 1 = omega (arith, c.if-timings-eq1.true, ap length c.timings-timings.ensures.value) in
    beats_alone c.args.rules.now c.args.given.now c.known-2.ensures.prices c.requires.prices (g.C.StepCost.cost c.args.cost.now) c.args.cells.now c.in_ok-alone.alone.value
    (single_alone c.args.rules.now c.args.given.now c.known-2.ensures.prices c.requires.prices one) c.known.ensures.some_timings c.in_ok-alone.ensures.each

pub improve_prices-requires-clause-valued : goal.improve_prices-requires-clause-valued
improve_prices-requires-clause-valued g c =
    let start = c.in_ok-start.ensures in
    one_valued (g.C.StepCost.cost c.args.cost.now) c.args.rules.now c.args.cells.now c.in_ok-alone.alone c.in_ok-start.start c.better.result c.in_ok-alone.ensures.valued
    record {
      timings = subst (AreFor c.args.rules.now) (sym start.prices) c.in_ok-listed.ensures.timings;
      potentials = start.potentials;
      value = start.value;
      small = start.small;
    } c.better.ensures.one

pub returns-clause-valued : goal.returns-clause-valued
returns-clause-valued g c =
    let found = c.in_ok-best.ensures in
    valued_by (g.C.StepCost.cost c.args.cost.now) c.args.rules.now c.args.cells.now _ found.alone.0 c.in_ok-gone.gone.prices c.in_ok-best.best
    c.in_ok-gone.ensures.valued.timings found.alone.2 found.potentials found.value found.small

pub returns-clause-last : goal.returns-clause-last
returns-clause-last g c q v low there =
    let p = pricing (g.C.StepCost.cost c.args.cost.now) c.args.rules.now c.in_ok-best.best.prices in
    let is : length c.args.rules.now.timings - 1 ≡ length c.timings-timings.result.now - 1 = ap (λ (ts : List Timing). length ts - 1) (sym c.timings-timings.ensures.value) in
    c.in_ok-best.ensures.best.greatest q c.in_ok-best.best.value v low c.in_ok-best.ensures.value
    (subst (λ k. IsChainValue (with_price p k q) c.args.cells.now v) is there)

pub returns-clause-alone : goal.returns-clause-alone
returns-clause-alone g c prices are for_r alone =
    let cost : ℤ → ℤ = g.C.StepCost.cost c.args.cost.now in
    let best : Option ℤ = c.in_ok-best.best.value in
    let less : IsAtMost c.in_ok-alone.alone.value best = at_most-trans c.in_ok-alone.alone.value c.better.result.value best c.better.ensures.above_first
    (at_most-trans c.better.result.value c.in_ok-gone.gone.value best c.in_ok-gone.ensures.no_less
    (c.in_ok-best.ensures.no_less c.in_ok-gone.gone.value c.in_ok-gone.ensures.valued.value)) in
    beats_alone c.args.rules.now prices are for_r cost c.args.cells.now best alone c.known.ensures.some_timings
    (λ j lt. beats_on cost c.args.rules.now c.args.cells.now j c.in_ok-alone.alone.value best (c.in_ok-alone.ensures.each j lt) less)

pub returns-clause-no_less : goal.returns-clause-no_less
returns-clause-no_less g c v there =
    let cost : ℤ → ℤ = g.C.StepCost.cost c.args.cost.now in
    let best : Option ℤ = c.in_ok-best.best.value in
    let start : Option ℤ = c.in_ok-start.start.value in
    let same : c.in_ok-start.start.prices ≡ c.args.given.now =
    c.in_ok-start.ensures.prices ∙ same_prices c.in_ok-listed.listed c.args.given.now (c.in_ok-listed.ensures.timings ∙ sym c.requires.prices) (c.in_ok-listed.ensures.values ∙ c.values.ensures) in
    let value : IsChainValue (pricing cost c.args.rules.now c.args.given.now) c.args.cells.now start =
    subst (λ (p : Prices). IsChainValue (pricing cost c.args.rules.now p) c.args.cells.now start) same c.in_ok-start.ensures.value in
    let is : start ≡ v = value_unique (pricing cost c.args.rules.now c.args.given.now) c.args.cells.now start v value there in
    let less : IsAtMost start best = at_most-trans start c.better.result.value best c.better.ensures.above_second
    (at_most-trans c.better.result.value c.in_ok-gone.gone.value best c.in_ok-gone.ensures.no_less
    (c.in_ok-best.ensures.no_less c.in_ok-gone.gone.value c.in_ok-gone.ensures.valued.value)) in
    subst (λ (w : Option ℤ). IsAtMost w best) is less
