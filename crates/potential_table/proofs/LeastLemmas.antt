-- The least of the numbers so far, when one more comes.
use Rattle.std.proofs.Common.{ℕ, ◌≡◌, ◌<◌, ◌+◌, ◌-◌, ◌^◌, ◌∙◌, Option, Some, None, refl, ap, sym, subst, arith, inl, inr, true, false, pos}
use Rattle.std.specs.Prelude.{ℤ, ◌⊎◌, ◌≤ℤ◌, ◌<ℤ◌, IfSome, int_le, int_lt, cond, Bool}
use Rattle.std.specs.Int.{int_min}
use Rattle.std.proofs.lemmas.Int.{ints}
use Rattle.std.proofs.lemmas.Bool.{cases_lt}
use Rattle.bound_specs.specs.Chains.{IsAtMost}
use Rattle.potential_table.specs.Filling.{lesser, sum_found, IsLeastOf}
use Rattle.chain_duality.proofs.Orders.{at_most-refl, at_most-trans}

-- the lesser of two numbers, by the test that picks it, is at most the first
chosen_first : (p q : ℤ) (b : Bool) → int_le p q ≡ b → IsAtMost (cond b (Some p) (Some q)) (Some p)
chosen_first p q true e = omega (arith, ints)
chosen_first p q false e = grind (arith, ints, e)

-- the lesser of two numbers, by the test that picks it, is at most the second
chosen_second : (p q : ℤ) (b : Bool) → int_le p q ≡ b → IsAtMost (cond b (Some p) (Some q)) (Some q)
chosen_second p q true e = grind (arith, ints, e)
chosen_second p q false e = omega (arith, ints)

-- the lesser of two numbers is at most the first
pub lesser_first : (p q : Option ℤ) → IsAtMost (lesser p q) p
lesser_first p None = at_most-refl p
lesser_first None (Some q) = tt
lesser_first (Some p) (Some q) = chosen_first p q (int_le p q) refl

-- the lesser of two numbers is at most the second
pub lesser_second : (p q : Option ℤ) → IsAtMost (lesser p q) q
lesser_second p None = tt
lesser_second None (Some q) = at_most-refl (Some q)
lesser_second (Some p) (Some q) = chosen_second p q (int_le p q) refl

-- the lesser of two numbers is one of them
pub lesser_one : (p q : Option ℤ) → (lesser p q ≡ p) ⊎ (lesser p q ≡ q)
lesser_one p None = inl refl
lesser_one None (Some q) = inr refl
lesser_one (Some p) (Some q) = elim (int_le p q) as
    (λ (b : Bool). (cond b (Some p) (Some q) ≡ Some p) ⊎ (cond b (Some p) (Some q) ≡ Some q))
    [ true ↦ inl refl | false ↦ inr refl ]

-- the order of two numbers, as its test tells it
int_le-false : (p q : ℤ) → q <ℤ p → int_le p q ≡ false
int_le-false p q h = grind (arith, ints, h)

int_le-true : (p q : ℤ) → p ≤ℤ q → int_le p q ≡ true
int_le-true p q h = grind (arith, ints, h)

-- what a number below the one for no sum stands for
found_itself : (p : ℤ) → p <ℤ pos (2 ^ 127 - 1) → sum_found p ≡ Some p
found_itself p h = rw (int_le-false (pos (2 ^ 127 - 1)) p h) refl

-- a sum is the lesser of itself and what a greater number stands for
lesser_new : (p q : ℤ) (none : Bool) → int_le (pos (2 ^ 127 - 1)) p ≡ none → q <ℤ p → lesser (sum_found p) (Some q) ≡ Some q
lesser_new p q true e h = rw e refl
lesser_new p q false e h = rw (e, int_le-false p q h) refl

-- the lesser of a number and a sum, by the test that picks it
lesser_picked : (p q : ℤ) (second : Bool) → int_lt q p ≡ second → q <ℤ pos (2 ^ 127 - 1) → sum_found (cond second q p) ≡ lesser (sum_found p) (Some q)
lesser_picked p q true e h =
    let less : q <ℤ p = grind (arith, ints, e) in
    found_itself q h ∙ sym (lesser_new p q (int_le (pos (2 ^ 127 - 1)) p) refl less)
lesser_picked p q false e h =
    let more : p ≤ℤ q = grind (arith, ints, e) in
    let small : p <ℤ pos (2 ^ 127 - 1) = omega (arith, ints, more, h) in
    rw (found_itself p small, int_le-true p q more) refl

-- the lesser of a number and a sum stands for the lesser of what the number stands for and the sum
pub found_lesser : (p q w : ℤ) → w ≡ int_min p q → q <ℤ pos (2 ^ 127 - 1) → sum_found w ≡ lesser (sum_found p) (Some q)
found_lesser p q w e h = ap sum_found e ∙ lesser_picked p q (int_lt q p) refl h
