-- The costs of work keep the laws of a cost.
use Rattle.std.specs.Prelude.{pos, negsuc, min, ◌*◌, ◌/◌, ◌≤◌}
use Rattle.std.proofs.Common.{ℕ, ℤ, suc, ◌≡◌, refl, arith}
use Rattle.std.proofs.Math.Nat.{min-le_right, div-mul-le_self, div-le_of_le-mul, mul-le-mul_left, mul-le-mul_right, zero-min, zero-mul, zero-div}
use Rattle.std.proofs.lemmas.Nat.{le-div}
use Rattle.std.proofs.lemmas.Int.{ints}
use Rattle.rail_specs.specs.Cost.{Grows, StaysWithin, given_back, regained_cost, traction_cost}

pub Grows-traction_cost : Grows traction_cost
Grows-traction_cost (pos m) (pos n) h = h
Grows-traction_cost (pos m) (negsuc n) h = omega (arith, ints)
Grows-traction_cost (negsuc m) (pos n) h = omega (arith, ints)
Grows-traction_cost (negsuc m) (negsuc n) h = omega (arith, ints)

pub StaysWithin-traction_cost : StaysWithin traction_cost
StaysWithin-traction_cost (pos n) = omega arith
StaysWithin-traction_cost (negsuc n) = omega arith

-- of more no less is given back
more_back : (share m n : ℕ) → m ≤ n → given_back share m ≤ given_back share n
more_back share m n h =
    let s : ℕ = min share 1000 in
    let most : s * m / 1000 * 1000 ≤ s * m = div-mul-le_self (s * m) 1000 in
    let more : s * m ≤ s * n = mul-le-mul_left s h in
    le-div (s * m / 1000) (s * n) 1000 (omega arith) (omega (arith, most, more))

-- no more than all is given back
all_back : (share n : ℕ) → given_back share n ≤ n
all_back share n = div-le_of_le-mul 1000 (mul-le-mul_right n (min-le_right share 1000))

pub Grows-regained_cost : (share : ℕ) → Grows (regained_cost share)
Grows-regained_cost share (pos m) (pos n) h = h
Grows-regained_cost share (pos m) (negsuc n) h = omega (arith, ints)
Grows-regained_cost share (negsuc m) (pos n) h = omega (arith, ints)
Grows-regained_cost share (negsuc m) (negsuc n) h = omega (arith, ints, more_back share (suc n) (suc m) (omega (arith, ints)))

pub StaysWithin-regained_cost : (share : ℕ) → StaysWithin (regained_cost share)
StaysWithin-regained_cost share (pos n) = omega arith
StaysWithin-regained_cost share (negsuc n) = omega (arith, ints, all_back share (suc n))

-- where nothing is given back, the cost is that of traction
pub regained_cost-of_nothing : (w : ℤ) → regained_cost 0 w ≡ traction_cost w
regained_cost-of_nothing (pos n) = refl
regained_cost-of_nothing (negsuc n) = rw (zero-min 1000, zero-mul (suc n), zero-div 1000) refl
