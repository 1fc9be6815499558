-- How large the parts of a step's work are.
use Rattle.std.proofs.Common.{ℕ, ◌+◌, ◌-◌, ◌*◌, ◌<◌, ◌≤◌, ◌≡◌, ◌^◌, arith, w16, w64, to_z, of_z, FitsSigned}
use Rattle.std.specs.Prelude.{ℤ, pos, ◌+ℤ◌, ◌-ℤ◌, ◌*ℤ◌}
use Rattle.std.specs.Int.RustNames.{unsigned_abs}
use Rattle.std.proofs.lemmas.Int.{ints, unsigned_abs-mul}
use Rattle.std.proofs.lemmas.Nat.{mul-le}
use Rattle.rail_specs.specs.declared.StepNumbers.{StepNumbers}
use Rattle.rail_specs.specs.Step.{work_up, work_down, HasSmallDrag, IsInRange, gradient_work}

pub square_bound : (v : ℕ) → v ≤ 12001 → v * v ≤ 144024001
square_bound v h = mul-le v v 12001 12001 h h

pub climb_factor_bound : (n : StepNumbers) → IsInRange n → 196200 * n.mass * n.metres ≤ 19620000000000
climb_factor_bound n r = mul-le (196200 * n.mass) n.metres 19620000000 1000 (omega (arith, r.train.mass.1)) r.metres.1

pub climb_bound : (n : StepNumbers) → IsInRange n → unsigned_abs (gradient_work n) ≤ 19620000000000000
climb_bound n r =
    let g : unsigned_abs n.gradient ≤ 1000 = omega (arith, ints, r.gradient.0, r.gradient.1) in
    rw (unsigned_abs-mul (pos (196200 * n.mass * n.metres)) n.gradient)
    (mul-le (196200 * n.mass * n.metres) (unsigned_abs n.gradient) 19620000000000 1000 (climb_factor_bound n r) g)

pub flat_bound : (n : StepNumbers) → IsInRange n → 2000000 * n.a * n.metres ≤ 20000000000000000
flat_bound n r = mul-le (2000000 * n.a) n.metres 20000000000000 1000 (omega (arith, r.train.a)) r.metres.1

pub slope_bound : (n : StepNumbers) (v : ℕ) → IsInRange n → v ≤ 12001 → 2000 * n.b * n.metres * v ≤ 240020000000000000
slope_bound n v r h =
    mul-le (2000 * n.b * n.metres) v 20000000000000 12001 (mul-le (2000 * n.b) n.metres 20000000000 1000 (omega (arith, r.train.b)) r.metres.1) h

pub rise_bound : (n : StepNumbers) (v : ℕ) → IsInRange n → HasSmallDrag n → v ≤ 12001 → (10000 * n.inertia + n.c * n.metres) * (v * v) ≤ 345657602400000000
rise_bound n v r d h =
    mul-le (10000 * n.inertia + n.c * n.metres) (v * v) 2400000000 144024001 (omega (arith, r.train.inertia.1, d)) (square_bound v h)

pub fall_bound : (n : StepNumbers) (v : ℕ) → IsInRange n → v ≤ 12001 → work_down n v ≤ 172828801200000000
fall_bound n v r h =
    mul-le (10000 * n.inertia - n.c * n.metres) (v * v) 1200000000 144024001 (omega (arith, r.train.inertia.1)) (square_bound v h)

-- the entry part, as the coefficients give it
pub work_up_by : (n : StepNumbers) (v : ℕ) →
    work_up n v ≡ (gradient_work n +ℤ pos (2000000 * n.a * n.metres)) +ℤ pos ((10000 * n.inertia + n.c * n.metres) * (v * v) + 2000 * n.b * n.metres * v)
work_up_by n v = omega (arith, ints)

pub work_up_bound : (n : StepNumbers) (v : ℕ) → IsInRange n → HasSmallDrag n → v ≤ 12001 → unsigned_abs (work_up n v) ≤ 625297602400000000
work_up_bound n v r d h =
    rw (work_up_by n v) (omega (arith, ints, climb_bound n r, flat_bound n r, slope_bound n v r h, rise_bound n v r d h))

-- ---- the code's casts

climb_casts : (k : ℕ) (g : ℤ) → k < 2 ^ 63 → FitsSigned w16 g → to_z w64 k *ℤ to_z w64 (of_z w64 (to_z w16 (of_z w16 g))) ≡ pos k *ℤ g
climb_casts k g h s =
    let a : to_z w64 k ≡ pos k = omega (arith, ints) in
    let b : to_z w64 (of_z w64 (to_z w16 (of_z w16 g))) ≡ g = omega (arith, ints) in
    cc

pub climb_code_is : (n : StepNumbers) → IsInRange n →
    to_z w64 (196200 * n.mass * n.metres) *ℤ to_z w64 (of_z w64 (to_z w16 (of_z w16 n.gradient))) ≡ gradient_work n
climb_code_is n r = climb_casts (196200 * n.mass * n.metres) n.gradient (omega (arith, climb_factor_bound n r)) (omega (arith, ints, r.gradient.0, r.gradient.1))

pub signed_sum_is : (b : ℤ) (k : ℕ) → unsigned_abs b ≤ 2 ^ 61 → k ≤ 2 ^ 61 → to_z w64 (of_z w64 (to_z w64 (of_z w64 b) +ℤ to_z w64 k)) ≡ b +ℤ pos k
signed_sum_is b k h g = omega (arith, ints)

pub signed_is : (k : ℕ) → k < 2 ^ 63 → to_z w64 k ≡ pos k
signed_is k h = omega (arith, ints)

pub climb_fits : (n : StepNumbers) → IsInRange n → FitsSigned w64 (gradient_work n)
climb_fits n r = let h = climb_bound n r in omega (arith, ints)

pub difference_is : (a b : ℤ) → unsigned_abs a ≤ 2 ^ 61 → unsigned_abs b ≤ 2 ^ 61 → to_z w64 (of_z w64 (to_z w64 (of_z w64 a) -ℤ to_z w64 (of_z w64 b))) ≡ a -ℤ b
difference_is a b h g = omega (arith, ints)
