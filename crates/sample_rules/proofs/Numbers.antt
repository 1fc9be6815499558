-- The numbers on the rows of samples: each is read back from its spelling, and its spelling needs no quotes.
use Rattle.std.proofs.Common.{ℕ, ℤ, pos, negsuc, ◌≡◌, ◌∙◌, ◌+◌, ◌*◌, ◌<◌, ◌&&◌, Bool, true, false, List, Option, Some, None, length, get_or, refl, ap, arith, not, nat_eq, ◌-ℤ◌}
use Rattle.std.specs.Fmt.{digits, signed_decimal}
use Rattle.std.specs.List.{list_all, list_any, range_with_len}
use Rattle.std.proofs.lemmas.Bool.{eqb-true}
use Rattle.std.proofs.lemmas.List.Folds.{list_all_at}
use Rattle.std.proofs.lemmas.List.FromFn.{get_or-range_with_len, length-range_with_len}
use Rattle.csv.specs.Writing.{default_writer, needs_byte}
use Rattle.rail_base.specs.Numbers.{number_of}

-- a spelling needs no quotes
abbrev pub is_plain : List ℕ → Bool
is_plain text = not (list_any (needs_byte default_writer) text)

-- two integers are one
abbrev same_int : ℤ → ℤ → Bool
same_int (pos m) (pos n) = nat_eq m n
same_int (negsuc m) (negsuc n) = nat_eq m n
same_int (pos m) (negsuc n) = false
same_int (negsuc m) (pos n) = false

same_is : (y z : ℤ) → same_int y z ≡ true → y ≡ z
same_is (pos m) (pos n) h = ap (λ (k : ℕ). pos k) (eqb-true m n h)
same_is (negsuc m) (negsuc n) h = ap (λ (k : ℕ). negsuc k) (eqb-true m n h)
same_is (pos m) (negsuc n) h = cc h
same_is (negsuc m) (pos n) h = cc h

-- what is read is this number
abbrev reads_as : Option ℤ → ℤ → Bool
reads_as None z = false
reads_as (Some y) z = same_int y z

-- a number is read back from its spelling, which is plain
pub record IsRead (z : ℤ) : Type 0 where
  pub read : number_of (signed_decimal z) ≡ Some z
  pub plain : list_any (needs_byte default_writer) (signed_decimal z) ≡ false

abbrev is_read : ℤ → Bool
is_read z = reads_as (number_of (signed_decimal z)) z && is_plain (signed_decimal z)

read_by : (o : Option ℤ) (z : ℤ) → reads_as o z ≡ true → o ≡ Some z
read_by None z h = cc h
read_by (Some y) z h = ap (λ (x : ℤ). Some x) (same_is y z h)

both_true : (a b : Bool) → (a && not b) ≡ true → (a ≡ true) × (b ≡ false)
both_true true false h = (refl, refl)
both_true true true h = cc h
both_true false b h = cc h

is_read-IsRead : (z : ℤ) → is_read z ≡ true → IsRead z
is_read-IsRead z h =
    let t = both_true (reads_as (number_of (signed_decimal z)) z) (list_any (needs_byte default_writer) (signed_decimal z)) h in
    record { read = read_by (number_of (signed_decimal z)) z t.0; plain = t.1 }

by_test : (b : Bool) → (b ≡ false → ⊥) → b ≡ true
by_test true h = refl
by_test false h = absurd (h refl)

-- what a test says of all numbers below one
below : (p : ℕ → Bool) (n k : ℕ) → list_all p (range_with_len 0 n) ≡ true → k < n → p k ≡ true
below p n k all h = by_test (p k) wrong
  where
    wrong : p k ≡ false → ⊥
    wrong e =
        let within : k < length (range_with_len 0 n) = omega (arith, length-range_with_len 0 n) in
        let at : get_or (range_with_len 0 n) k 0 ≡ k = get_or-range_with_len 0 n k 0 h ∙ omega arith in
        let no : p (get_or (range_with_len 0 n) k 0) ≡ false = ap p at ∙ e in
        cc (list_all_at p (range_with_len 0 n) k 0 within no, all)

-- places
abbrev place_test : ℕ → Bool
place_test k = is_read (pos (1000 * k))

places_read : list_all place_test (range_with_len 0 41) ≡ true
unfolding digits
places_read = refl

pub place_read : (k : ℕ) → k < 41 → IsRead (pos (1000 * k))
place_read k h = is_read-IsRead (pos (1000 * k)) (below place_test 41 k places_read h)

-- limits
abbrev limit_test : ℕ → Bool
limit_test k = is_read (pos (54 + 9 * k))

limits_read : list_all limit_test (range_with_len 0 9) ≡ true
unfolding digits
limits_read = refl

pub limit_read : (k : ℕ) → k < 9 → IsRead (pos (54 + 9 * k))
limit_read k h = is_read-IsRead (pos (54 + 9 * k)) (below limit_test 9 k limits_read h)

-- gradients
abbrev gradient_test : ℕ → Bool
gradient_test k = is_read (pos k -ℤ pos 50)

gradients_read : list_all gradient_test (range_with_len 0 101) ≡ true
unfolding digits
gradients_read = refl

pub gradient_read : (k : ℕ) → k < 101 → IsRead (pos k -ℤ pos 50)
gradient_read k h = is_read-IsRead (pos k -ℤ pos 50) (below gradient_test 101 k gradients_read h)
