-- The prices of a certificate, for the timing points of rules.
use Rattle.std.specs.Prelude.{ℤ, map}
use Rattle.bound_specs.specs.Links.{Pricing}
use Rattle.bound_specs.specs.Prices.{Prices}
use Rattle.rail_specs.specs.Rules.{Rules}
use Rattle.dual_certificate.specs.declared.certificate.Certificate.{Certificate}

-- the prices, for the timing points of the rules
abbrev pub prices_in : Rules → Certificate → Prices
prices_in r c = record { points = map (λ t. t.point) r.timings; values = c.prices }

abbrev pub pricing_in : (ℤ → ℤ) → Rules → Certificate → Pricing
pricing_in cost r c = record { cost = cost; rules = r; prices = prices_in r c }
