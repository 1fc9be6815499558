use Rattle.std.proofs.Common.{ℕ, ◌≡◌, ◌+◌, ◌<◌, ◌≤◌, Option, Some, length, subst, sym, arith}
use Rattle.std.specs.Prelude.{ℤ, ◌<ℤ◌, ◌≤ℤ◌, IfSome}
use Rattle.std.proofs.lemmas.Int.{ints}
use Rattle.bound_specs.specs.ChainValues.{IsChainValue, IsBestPrice, with_price}
use Rattle.bound_specs.specs.Links.{Pricing}
use Rattle.potential_table.specs.Searching.{IsSmallerBelow, IsNoGreaterFrom}
use Rattle.potential_table.specs.declared.price_search.Tried.{Tried}
use Rattle.link_costs.proofs.BoundLemmas.{timing_count}
use Rattle.potential_table.proofs.PriceLines.{smaller_below, no_greater_from, none_above, best_between}
use Rattle.potential_table.proofs.price_search.sought.Given.{Over}
use Rattle.potential_table.proofs.price_search.sought.Goals as goal
use Rattle.potential_table.proofs.price_search.sought.Goals.{After-known-2}

-- the pricing that is searched
abbrev pricing : (g : Over) → After-known-2 g → Pricing
pricing g c = record { cost = g.C.StepCost.cost c.args.cost.now; rules = c.args.rules.now; prices = c.args.prices.now }

-- the timing point has a value and a point
has_value : (g : Over) (c : After-known-2 g) → c.args.timing < length c.args.prices.now.values
has_value g c = omega (arith, c.requires.timing, timing_count c.args.rules.now c.args.prices.now c.requires.prices, c.known-2.ensures.prices.equal)

has_point : (g : Over) (c : After-known-2 g) → c.args.timing < length c.args.prices.now.points
has_point g c = omega (arith, c.requires.timing, timing_count c.args.rules.now c.args.prices.now c.requires.prices)

pub loop-low-init : goal.loop-low-init
loop-low-init g c = record {
  in_order = omega arith;
  most = omega arith;
  below = λ q v w l is_v is_w. absurd (omega (arith, l));
  above = none_above (pricing g c) c.args.timing (has_value g c) (has_point g c) c.args.cells.now;
}

pub loop-low-preserved-then-tried : goal.loop-low-preserved-then-tried
loop-low-preserved-then-tried g c =
    let p : Pricing = record { cost = g.C.StepCost.cost c.args.cost.now; rules = c.args.rules.now; prices = c.args.prices.now } in
    let q : ℕ = c.next_price-price.result in
    let count = timing_count c.args.rules.now c.args.prices.now c.requires.prices in
    let here : IsChainValue (with_price p c.args.timing q) c.args.cells.now (Some c.in-Some.tried.here) =
    subst (λ (found : Option Tried). IfSome found (λ t. IsChainValue (with_price p c.args.timing q) c.args.cells.now (Some t.here))) c.in-Some.is c.in_ok-tried.ensures.here in
    let above : IsChainValue (with_price p c.args.timing (q + 1)) c.args.cells.now (Some c.in-Some.tried.above) =
    subst (λ (found : Option Tried). IfSome found (λ t. IsChainValue (with_price p c.args.timing (q + 1)) c.args.cells.now (Some t.above))) c.in-Some.is c.in_ok-tried.ensures.above in
    record {
      in_order = omega (arith, c.next_price-price.ensures.high);
      most = c.loop-low.invariant.most;
      below = smaller_below p c.args.timing (omega (arith, c.requires.timing, count, c.known-2.ensures.prices.equal)) (omega (arith, c.requires.timing, count)) c.args.cells.now q
          c.in-Some.tried.here c.in-Some.tried.above here above (omega (arith, ints, c.if-tried.true));
      above = c.loop-low.invariant.above;
    }

pub loop-low-preserved : goal.loop-low-preserved
loop-low-preserved g c =
    let p : Pricing = record { cost = g.C.StepCost.cost c.args.cost.now; rules = c.args.rules.now; prices = c.args.prices.now } in
    let q : ℕ = c.next_price-price.result in
    let count = timing_count c.args.rules.now c.args.prices.now c.requires.prices in
    let here : IsChainValue (with_price p c.args.timing q) c.args.cells.now (Some c.in-Some.tried.here) =
    subst (λ (found : Option Tried). IfSome found (λ t. IsChainValue (with_price p c.args.timing q) c.args.cells.now (Some t.here))) c.in-Some.is c.in_ok-tried.ensures.here in
    let above : IsChainValue (with_price p c.args.timing (q + 1)) c.args.cells.now (Some c.in-Some.tried.above) =
    subst (λ (found : Option Tried). IfSome found (λ t. IsChainValue (with_price p c.args.timing (q + 1)) c.args.cells.now (Some t.above))) c.in-Some.is c.in_ok-tried.ensures.above in
    record {
      in_order = c.next_price-price.ensures.low;
      most = omega (arith, c.next_price-price.ensures.high, c.loop-low.invariant.most);
      below = c.loop-low.invariant.below;
      above = no_greater_from p c.args.timing (omega (arith, c.requires.timing, count, c.known-2.ensures.prices.equal)) (omega (arith, c.requires.timing, count)) c.args.cells.now q
          c.in-Some.tried.here c.in-Some.tried.above here above (omega (arith, ints, c.if-tried.false));
    }

pub returns-clause-best : goal.returns-clause-best
returns-clause-best g c =
    let p : Pricing = record { cost = g.C.StepCost.cost c.args.cost.now; rules = c.args.rules.now; prices = c.args.prices.now } in
    let count = timing_count c.args.rules.now c.args.prices.now c.requires.prices in
    let is : c.loop-low.high ≡ c.loop-low.low = omega (arith, c.loop-low-test.false, c.loop-low.invariant.in_order) in
    best_between p c.args.timing (omega (arith, c.requires.timing, count, c.known-2.ensures.prices.equal)) (omega (arith, c.requires.timing, count)) c.args.cells.now c.loop-low.low
    (omega (arith, is, c.loop-low.invariant.most)) c.loop-low.invariant.below (subst (IsNoGreaterFrom p c.args.cells.now c.args.timing) is c.loop-low.invariant.above)
