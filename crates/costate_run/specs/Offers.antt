-- Bounds by costates that a certificate may have.
use Rattle.std.specs.Prelude.{ℕ, ◌*◌, ◌^◌, ◌≤◌, ◌≡◌, ℤ, pos, List, length, map, min, replicate, slice_index, All}
use Rattle.std.specs.Int.RustNames.{unsigned_abs}
use Rattle.rail_specs.specs.Rules.{Rules}
use Rattle.rail_specs.specs.Cost.{IsBound}
use Rattle.costate_bound.specs.Costs.{CoversWork}
use Rattle.costate_bound.specs.Relaxation.{Relaxation, costate_bound}
use Rattle.costate_run.specs.declared.offers.Offer.{Offer}

-- what a bound is computed from, with these prices and costates and tangents at these speeds
abbrev pub relaxation_by : Rules → ℕ → List ℕ → List ℕ → List ℤ → Relaxation
relaxation_by r share prices speeds costates =
    record { rules = r; share = share; prices = record { points = map (λ t. t.point) r.timings; values = prices }; speeds = speeds; costates = costates }

-- prices and costates in their ranges, and the bound that they give with tangents at these speeds, where drives have these least and greatest
-- speeds
pub record IsOffer (r : Rules) (share : ℕ) (speeds low high : List ℕ) (o : Offer) : Type 0 where
  pub prices : length o.prices.items ≡ length r.timings
  pub price : (j : ℕ) → slice_index o.prices.items j ≤ 2 ^ 50
  pub costates : length o.costates.items ≡ length r.steps
  pub costate : All (λ s. unsigned_abs s ≤ 2 ^ 22) o.costates.items
  pub value : o.bound ≡ costate_bound (relaxation_by r share o.prices.items speeds o.costates.items) low high
  pub bounds : (cost : ℤ → ℤ) → CoversWork share cost → IsBound cost r o.bound
  pub small : unsigned_abs o.bound ≤ 2 ^ 98

-- prices of nothing, and costates at which work is charged the share of it that comes back
abbrev pub free_prices : Rules → List ℕ
free_prices r = replicate (length r.timings) 0

abbrev pub free_costates : Rules → ℕ → List ℤ
free_costates r share = replicate (length r.steps) (pos (64 * min share 1000))

-- the bound that these give
abbrev pub free_bound : Rules → ℕ → List ℕ → List ℕ → List ℕ → ℤ
free_bound r share speeds low high = costate_bound (relaxation_by r share (free_prices r) speeds (free_costates r share)) low high

-- an offer of these
pub record IsFreeOffer (r : Rules) (share : ℕ) (o : Offer) : Type 0 where
  pub prices : o.prices.items ≡ free_prices r
  pub costates : o.costates.items ≡ free_costates r share
