use Rattle.std.proofs.Common.{ℕ, ◌≡◌, ◌<◌, ◌∙◌, List, Option, Some, length, subst, sym, ap, arith}
use Rattle.std.specs.Prelude.{ℤ}
use Rattle.bound_specs.specs.ChainValues.{IsChainValue, price_set, with_price}
use Rattle.bound_specs.specs.Links.{Pricing}
use Rattle.bound_specs.specs.Prices.{Prices}
use Rattle.link_costs.proofs.BoundLemmas.{timing_count}
use Rattle.potential_table.proofs.PriceLines.{set_to_itself, same_prices, no_less_than_itself}
use Rattle.potential_table.proofs.price_search.best_valued.Goals as goal

pub sought-requires-clause-chain : goal.sought-requires-clause-chain
sought-requires-clause-chain g c =
    let cells = c.args.cells.now in
    let same : c.in_ok-found.found.prices ≡ c.args.prices.now = c.in_ok-found.ensures.prices ∙ same_prices c.in_ok-given.given c.args.prices.now (c.in_ok-given.ensures.timings ∙ sym c.requires.prices)
    (c.in_ok-given.ensures.values ∙ c.values.ensures) in (
      c.in-Some.field-0,
      subst (λ (p : Prices). IsChainValue (record { cost = g.C.StepCost.cost c.args.cost.now; rules = c.args.rules.now; prices = p }) cells (Some c.in-Some.field-0)) same
          (subst (IsChainValue (record { cost = g.C.StepCost.cost c.args.cost.now; rules = c.args.rules.now; prices = c.in_ok-found.found.prices }) cells) c.in-Some.is c.in_ok-found.ensures.value),
    )

pub returns-in-None-clause-alone : goal.returns-in-None-clause-alone
returns-in-None-clause-alone g c =
    let j : ℕ = c.args.timing in
    let set = set_to_itself c.args.prices.now j c.known-2.ensures.prices in
    let same : c.in_ok-found.found.prices ≡ c.args.prices.now = c.in_ok-found.ensures.prices ∙ same_prices c.in_ok-given.given c.args.prices.now (c.in_ok-given.ensures.timings ∙ sym c.requires.prices)
    (c.in_ok-given.ensures.values ∙ c.values.ensures) in
    (set.0, set.1, same ∙ set.2)

pub returns-in_ok-best-in-Some-clause-no_less : goal.returns-in_ok-best-in-Some-clause-no_less
returns-in_ok-best-in-Some-clause-no_less g c v is_v =
    let p : Pricing = record { cost = g.C.StepCost.cost c.args.cost.now; rules = c.args.rules.now; prices = c.args.prices.now } in
    let j : ℕ = c.args.timing in
    let q : ℕ = c.in_ok-price-in-Some.price in
    let count = timing_count c.args.rules.now c.args.prices.now c.requires.prices in
    let is : c.in_ok-best-in-Some.best.prices ≡ price_set c.args.prices.now j q = c.in_ok-best-in-Some.ensures.prices ∙ c.in_ok-changed-in-Some.ensures.value in
    let value : IsChainValue (with_price p j q) c.args.cells.now c.in_ok-best-in-Some.best.value =
    subst (λ (prices : Prices). IsChainValue (record { cost = p.cost; rules = p.rules; prices = prices }) c.args.cells.now c.in_ok-best-in-Some.best.value) is c.in_ok-best-in-Some.ensures.value in
    no_less_than_itself p j (omega (arith, c.requires.timing, count, c.known-2.ensures.prices.equal)) (omega (arith, c.requires.timing, count)) c.args.cells.now q v
    c.in_ok-best-in-Some.best.value (c.known-2.ensures.prices.low j) c.in_ok-price-in-Some.ensures.best value is_v
