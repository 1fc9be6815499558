-- What the costs of a run's steps rest on.
use Rattle.std.specs.Prelude.{ℤ}
use Rattle.rail_specs.specs.Rules.{Rules}
use Rattle.bound_specs.specs.Prices.{Prices}
use Rattle.rail_specs.specs.Cost.{Grows, StaysWithin}
use Rattle.bound_specs.specs.Prices.{ArePrices, AreFor}
use Rattle.bound_specs.specs.Links.{Pricing}
use Rattle.rule_parts.specs.Shaped.{IsShaped}

-- a cost that keeps its laws, the rules of a run, and prices for their timing points
pub record IsPricing (p : Pricing) : Type 0 where
  pub grows : Grows p.cost
  pub within : StaysWithin p.cost
  pub shaped : IsShaped p.rules
  pub prices : ArePrices p.prices
  pub timings : AreFor p.rules p.prices

-- the rules of a run, prices, and the value of a cost of work
pub record PricedSteps (C : Type 0) : Type 0 where
  pub rules : Rules
  pub cost : C
  pub prices : Prices

-- the same, with that cost told
abbrev pub pricing_of : {C : Type 0} → (C → ℤ → ℤ) → PricedSteps C → Pricing
pricing_of cost s = record { cost = cost s.cost; rules = s.rules; prices = s.prices }
