-- The two inequalities of one step: of its work at a costate, and of its priced time along a tangent.
use Rattle.std.proofs.Common.{ℕ, suc, ◌≡◌, ◌+◌, ◌-◌, ◌*◌, ◌/◌, ◌≤◌, refl, arith, inl, inr}
use Rattle.std.specs.Prelude.{ℤ, pos, negsuc, neg_ℤ, min, ◌+ℤ◌, ◌-ℤ◌, ◌*ℤ◌, ◌≤ℤ◌}
use Rattle.std.proofs.lemmas.Int.{ints}
use Rattle.std.proofs.lemmas.Bool.{cases_lt}
use Rattle.std.proofs.Math.Nat.{mul-le-mul_left, mul-le-mul_right, div-mul-le_self}
use Rattle.costate_bound.specs.Relaxation.{above_full, below_share}

-- ---- work

-- work that is done, at a costate from 0 on: what is charged beyond the full costate is charged of the most that the traction does
done_forward : (n a t c u : ℕ) → n ≤ 64000 + u → a ≤ c → a ≤ t → n * a ≤ 64000 * c + u * t
done_forward n a t c u h g k = omega (arith, mul-le-mul_right a h, mul-le-mul_left u k, g)

-- work that is taken: what comes back costs no less than the share, and what is charged short of it is charged of the most that the brakes take
taken_forward : (n a b c m l : ℕ) → 64 * m ≤ n + l → 1000 * c ≤ m * a → a ≤ b → 64000 * c ≤ n * a + l * b
taken_forward n a b c m l h g k = omega (arith, mul-le-mul_right a h, mul-le-mul_left l k, g)

-- the same at a costate below 0
taken_backward : (n a b c m l : ℕ) → 64 * m + n ≤ l → 1000 * c ≤ m * a → a ≤ b → n * a + 64000 * c ≤ l * b
taken_backward n a b c m l h g k = omega (arith, mul-le-mul_right a h, mul-le-mul_left l k, g)

-- the cost of a step's work is at least its charge at a costate, less what forces take off it
charged_work : (m : ℕ) (s w c : ℤ) (t b u l : ℕ) → u ≡ above_full s → l ≡ (elim s as (λ (s : ℤ). ℕ) [ pos n ↦ 64 * m - n | negsuc n ↦ 64 * m + suc n ]) →
    w ≤ℤ c → (pos m *ℤ w) ≤ℤ (pos 1000 *ℤ c) → w ≤ℤ pos t → neg_ℤ (pos b) ≤ℤ w → (s *ℤ w) ≤ℤ ((pos 64000 *ℤ c) +ℤ pos (u * t + l * b))
charged_work m (pos n) (pos a) (pos c) t b u l e f h g i j = omega (arith, ints, done_forward n a t c u (omega (arith, e)) (omega (arith, ints, h)) (omega (arith, ints, i)))
charged_work m (pos n) (pos a) (negsuc c) t b u l e f h g i j = absurd (omega (arith, ints, h))
charged_work m (pos n) (negsuc a) (pos c) t b u l e f h g i j = omega (arith, ints)
charged_work m (pos n) (negsuc a) (negsuc c) t b u l e f h g i j =
    omega (arith, ints, taken_forward n (suc a) b (suc c) m l (omega (arith, f)) (omega (arith, ints, g)) (omega (arith, ints, j)))
charged_work m (negsuc n) (pos a) (pos c) t b u l e f h g i j = omega (arith, ints)
charged_work m (negsuc n) (pos a) (negsuc c) t b u l e f h g i j = absurd (omega (arith, ints, h))
charged_work m (negsuc n) (negsuc a) (pos c) t b u l e f h g i j =
    omega (arith, ints, taken_backward (suc n) (suc a) b 0 m l (omega (arith, f)) (omega arith) (omega (arith, ints, j)))
charged_work m (negsuc n) (negsuc a) (negsuc c) t b u l e f h g i j =
    omega (arith, ints, taken_backward (suc n) (suc a) b (suc c) m l (omega (arith, f)) (omega (arith, ints, g)) (omega (arith, ints, j)))

below_is : (share : ℕ) (s : ℤ) → below_share share s ≡ (elim s as (λ (s : ℤ). ℕ) [ pos n ↦ 64 * min share 1000 - n | negsuc n ↦ 64 * min share 1000 + suc n ])
below_is share (pos n) = refl
below_is share (negsuc n) = refl

pub work_charge : (share : ℕ) (s w c : ℤ) (t b : ℕ) → w ≤ℤ c → (pos (min share 1000) *ℤ w) ≤ℤ (pos 1000 *ℤ c) → w ≤ℤ pos t → neg_ℤ (pos b) ≤ℤ w →
    (s *ℤ w) ≤ℤ ((pos 64000 *ℤ c) +ℤ pos (above_full s * t + below_share share s * b))
work_charge share s w c t b h g i j = charged_work (min share 1000) s w c t b (above_full s) (below_share share s) refl (below_is share s) h g i j

-- a costate's charge of a difference
pub charge-apart : (s a z : ℤ) (b : ℕ) → z ≡ a -ℤ pos b → (s *ℤ z) ≡ ((s *ℤ a) -ℤ (s *ℤ pos b))
charge-apart (pos s) (pos a) (pos z) b e = let f : a ≡ z + b = omega (arith, ints, e) in rw f (omega (arith, ints))
charge-apart (pos s) (pos a) (negsuc z) b e = let f : b ≡ a + suc z = omega (arith, ints, e) in rw f (omega (arith, ints))
charge-apart (pos s) (negsuc a) (pos z) b e = absurd (omega (arith, ints, e))
charge-apart (pos s) (negsuc a) (negsuc z) b e = let f : z ≡ a + b = omega (arith, ints, e) in rw f (omega (arith, ints))
charge-apart (negsuc s) (pos a) (pos z) b e = let f : a ≡ z + b = omega (arith, ints, e) in rw f (omega (arith, ints))
charge-apart (negsuc s) (pos a) (negsuc z) b e = let f : b ≡ a + suc z = omega (arith, ints, e) in rw f (omega (arith, ints))
charge-apart (negsuc s) (negsuc a) (pos z) b e = absurd (omega (arith, ints, e))
charge-apart (negsuc s) (negsuc a) (negsuc z) b e = let f : z ≡ a + b = omega (arith, ints, e) in rw f (omega (arith, ints))

-- ---- time

-- twice a product is at most the sum of the squares
squares : (a b : ℕ) → 2 * (a * b) ≤ a * a + b * b
squares a b = elim (cases_lt a b) [
  | inl l ↦ (let d : ℕ = b - a in let e : b ≡ a + d = omega (arith, l) in rw e (omega arith))
  | inr l ↦ (let d : ℕ = a - b in let e : a ≡ b + d = omega (arith, l) in rw e (omega arith))
]

-- what is at most, times a positive number, is at most
cancelled : (q a b : ℕ) → 1 ≤ q → q * a ≤ q * b → a ≤ b
cancelled q a b some h = elim (cases_lt b a) [
  | inl l ↦ absurd (let more : suc b ≤ a = omega (arith, l) in omega (arith, h, mul-le-mul_left q more, some))
  | inr l ↦ l
]

-- a quotient rounded down, with its rounding
rounding : (n q : ℕ) → 1 ≤ q → n ≤ q * (n / q + 1)
rounding n q some = omega (arith, some)

-- the priced time of a step, rounded down, and a ms of its price are at least what the tangent at the sum of speeds s says of the sum q
pub time_charge : (n p q s slope : ℕ) → 1 ≤ q → slope ≤ (n * p) / (s * s) → 2 * slope * s ≤ p * (n / q) + p + slope * q
time_charge n p q s slope some h =
    let steep : slope * (s * s) ≤ n * p = omega (arith, mul-le-mul_right (s * s) h, div-mul-le_self (n * p) (s * s)) in
    let whole : n * p ≤ q * (n / q + 1) * p = mul-le-mul_right p (rounding n q some) in
    let square : slope * (2 * (s * q)) ≤ slope * (s * s + q * q) = mul-le-mul_left slope (squares s q) in
    cancelled q (2 * slope * s) (p * (n / q) + p + slope * q) some (omega (arith, steep, whole, square))
