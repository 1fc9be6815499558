-- Offers of a certificate.
use Rattle.std.proofs.Common.{◌≡◌, ◌≤◌, ◌^◌, ℕ, ℤ, List, length, replicate, arith, inl, inr}
use Rattle.std.specs.Prelude.{slice_index, All}
use Rattle.std.specs.Int.RustNames.{unsigned_abs}
use Rattle.std.proofs.lemmas.Bool.{cases_lt}
use Rattle.std.proofs.lemmas.List.{get_or_past, get_or-replicate, length-replicate}
use Rattle.std.proofs.lemmas.List.Elements.{All-replicate}
use Rattle.rail_specs.specs.Rules.{Rules}
use Rattle.bound_specs.specs.Prices.{Prices, AreFor}
use Rattle.costate_run.specs.Offers.{relaxation_by}

-- no price of nothing is large
pub no_prices : (n j : ℕ) → slice_index (replicate n 0) j ≤ 2 ^ 50
no_prices n j = elim (cases_lt j n) [
  | inl l ↦ rw (get_or-replicate {A = ℕ} n j 0 0 l) (omega arith)
  | inr l ↦ (let none : List ℕ = replicate n 0 in rw (get_or_past none j 0 (omega (arith, length-replicate {A = ℕ} n 0))) (omega arith))
]

-- the same many times
pub price_count : (n : ℕ) → length {A = ℕ} (replicate n 0) ≡ n
price_count n = length-replicate {A = ℕ} n 0

pub costate_count : (n : ℕ) (s : ℤ) → length (replicate n s) ≡ n
costate_count n s = length-replicate n s

pub costate_small : (n : ℕ) (s : ℤ) → unsigned_abs s ≤ 2 ^ 22 → All (λ s. unsigned_abs s ≤ 2 ^ 22) (replicate n s)
costate_small n s h = All-replicate (λ (s : ℤ). unsigned_abs s ≤ 2 ^ 22) n s h

-- what a bound is computed from
pub relaxation_is : (r : Rules) (share : ℕ) (p : Prices) (speeds prices : List ℕ) (given costates : List ℤ) → AreFor r p → p.values ≡ prices → given ≡ costates
    → record { rules = r; share = share; prices = p; speeds = speeds; costates = given } ≡ relaxation_by r share prices speeds costates
relaxation_is r share p speeds prices given costates timings values same =
    λ i. record { rules = r; share = share; prices = record { points = timings i; values = values i }; speeds = speeds; costates = same i }
