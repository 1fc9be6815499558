-- The round numbers, tried one after the other.
use Rattle.std.proofs.Common.{arith, zero, suc, ℕ, ◌≡◌, ◌<◌, ◌≤◌, ◌+◌, ◌*◌, List, true, false, length, drop, get_or, refl, add-one, drop-cons, max}
use Rattle.std.specs.Prelude.{nat_le, slice_index}
use Rattle.rail_specs.specs.Rules.{Rules}
use Rattle.rule_parts.specs.Shaped.{IsShaped}
use Rattle.run_picture.specs.Scale.{first_enough, greatest_below}

-- one that isn't enough
pub first_enough-next : (xs : List ℕ) (i size steps : ℕ) → i < length xs → nat_le size (steps * get_or xs i 0) ≡ false
    → first_enough (drop i xs) size steps ≡ first_enough (drop (i + 1) xs) size steps
first_enough-next xs i size steps h e = rw (drop-cons xs i 0, e, add-one) refl

-- one that is
pub first_enough-here : (xs : List ℕ) (i size steps : ℕ) → i < length xs → nat_le size (steps * get_or xs i 0) ≡ true
    → first_enough (drop i xs) size steps ≡ get_or xs i 0
first_enough-here xs i size steps h e = rw (drop-cons xs i 0, e) refl

-- one more number to be the greatest of
pub greatest_below-next : (f : ℕ → ℕ) (n : ℕ) → greatest_below f (n + 1) ≡ max (greatest_below f n) (f n)
greatest_below-next f n = rw (add-one n) refl

pub ruleset greatest = (greatest_below-next)

-- each place lies behind the first
pub places-rise : (r : Rules) → IsShaped r → (k : ℕ) → k ≤ length r.steps → slice_index r.places 0 + k ≤ slice_index r.places k
places-rise r h zero l = omega arith
places-rise r h (suc k) l =
    let here : k < length r.steps = omega arith in
    let before = places-rise r h k (omega arith) in
    let next = h.metres k here in
    let long = (h.numbers k here).metres.0 in
    let is : suc k ≡ k + 1 = omega arith in
    rw is (omega (arith, before, next, long))
