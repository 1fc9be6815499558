-- When a costate certificate holds, and what it shows then.
use Rattle.std.specs.Prelude.{◌+◌, ◌≡◌, ℕ, ℤ, List, length, map}
use Rattle.bound_specs.specs.Prices.{Prices}
use Rattle.rail_specs.specs.Rules.{Rules, IsDrive}
use Rattle.rail_specs.specs.Ranges.{AreRanges, no_narrowing}
use Rattle.rail_specs.specs.Times.{IsOnTimeUp}
use Rattle.rail_specs.specs.Cost.{cost_of, IsBound}
use Rattle.costate_bound.specs.Relaxation.{Relaxation, costate_bound}
use Rattle.costate_text.specs.declared.certificate.CostateCertificate.{CostateCertificate}

-- the prices, for the timing points of the rules
abbrev pub prices_in : Rules → CostateCertificate → Prices
prices_in r c = record { points = map (λ t. t.point) r.timings; values = c.prices }

-- what the bound is computed from
abbrev pub relaxation_in : Rules → ℕ → CostateCertificate → Relaxation
relaxation_in r share c = record { rules = r; share = share; prices = prices_in r c; speeds = c.speeds; costates = c.costates }

-- a costate certificate holds for rules, a cost of work and the share that comes back: its drive is one on time and costs its energy, and its
-- bound is the one that its prices, costates and speeds give, where drives have these least and greatest speeds
pub record Holds (cost : ℤ → ℤ) (share : ℕ) (r : Rules) (c : CostateCertificate) : Type 0 where
  pub points : length c.speeds ≡ length r.steps + 1
  pub prices : length c.prices ≡ length r.timings
  pub drive : IsDrive r c.speeds
  pub on_time : IsOnTimeUp r c.speeds
  pub energy : c.energy ≡ cost_of cost r c.speeds
  pub bound : (least : List ℕ) × (greatest : List ℕ) × AreRanges r no_narrowing least greatest × (c.bound ≡ costate_bound (relaxation_in r share c) least greatest)

-- what a costate certificate shows, whoever wrote it: its energy is that of a drive on time, and every drive on time costs at least its bound
pub record Shows (cost : ℤ → ℤ) (r : Rules) (c : CostateCertificate) : Type 0 where
  pub drive : IsDrive r c.speeds
  pub on_time : IsOnTimeUp r c.speeds
  pub energy : c.energy ≡ cost_of cost r c.speeds
  pub bound : IsBound cost r c.bound
