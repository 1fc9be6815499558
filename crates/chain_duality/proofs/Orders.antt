-- The order of numbers where none stands above every number, and sums in it.
use Rattle.std.proofs.Common.{ℕ, ◌≡◌, ◌≤◌, ◌+◌, Option, Some, None, refl, arith}
use Rattle.std.specs.Prelude.{ℤ, IfSome}
use Rattle.std.specs.Int.RustNames.{unsigned_abs}
use Rattle.std.proofs.lemmas.Int.{ints}
use Rattle.bound_specs.specs.Chains.{plus, IsAtMost}

-- a number is at most itself
pub at_most-refl : (p : Option ℤ) → IsAtMost p p
at_most-refl None = tt
at_most-refl (Some p) = omega (arith, ints)

-- what is at most a number is at most any that this is at most
pub at_most-trans : (p q r : Option ℤ) → IsAtMost p q → IsAtMost q r → IsAtMost p r
at_most-trans p q None h g = tt
at_most-trans p None (Some r) h g = absurd g
at_most-trans None (Some q) (Some r) h g = absurd h
at_most-trans (Some p) (Some q) (Some r) h g = omega (arith, ints, h, g)

-- sums of lesser numbers are lesser
pub plus_rises : (p q r s : Option ℤ) → IsAtMost p q → IsAtMost r s → IsAtMost (plus p r) (plus q s)
plus_rises p None r s h g = tt
plus_rises p (Some q) r None h g = tt
plus_rises None (Some q) r (Some s) h g = absurd h
plus_rises (Some p) (Some q) None (Some s) h g = absurd g
plus_rises (Some p) (Some q) (Some r) (Some s) h g = omega (arith, ints, h, g)

-- where a sum is there, its second part is
pub second_part : (p q : Option ℤ) (s : ℤ) → plus p q ≡ Some s → (b : ℤ) × (q ≡ Some b)
second_part None q s e = absurd cc
second_part (Some p) None s e = absurd cc
second_part (Some p) (Some q) s e = (q, refl)

-- a number is within a bound, where there is one
abbrev pub IsWithin : ℕ → Option ℤ → Type 0
IsWithin n p = IfSome p (λ q. unsigned_abs q ≤ n)

-- a sum is within the sum of its parts' bounds
pub plus_within : (m n : ℕ) (p q : Option ℤ) → IsWithin m p → IsWithin n q → IsWithin (m + n) (plus p q)
plus_within m n None q h g = tt
plus_within m n (Some p) None h g = tt
plus_within m n (Some p) (Some q) h g = omega (arith, ints, h, g)

-- what holds where there is a number, by what holds there
pub if_some : (v : Option ℤ) (P Q : ℤ → Type 0) → ((p : ℤ) → P p → Q p) → IfSome v P → IfSome v Q
if_some None P Q f h = tt
if_some (Some p) P Q f h = f p h

-- a number is at most a sum, where it is wherever the second part is there
pub below_if : (v l b : Option ℤ) → IfSome b (λ p. IsAtMost v (plus l (Some p))) → IsAtMost v (plus l b)
below_if v None b h = tt
below_if v (Some l) None h = tt
below_if v (Some l) (Some b) h = h
