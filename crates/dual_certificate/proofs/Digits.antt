-- Digits one by one, with a size that stops growing beyond 2^100.
use Rattle.std.proofs.Common.{◌≡◌, ◌<◌, ◌≤◌, ◌+◌, ◌-◌, ◌*◌, ◌∷◌, ℕ, List, [], true, false, refl, arith, length, drop, get_or, add-one, drop-cons, min, sym, inl, inr}
use Rattle.std.proofs.lemmas.Bool.{cases_lt}
use Rattle.std.proofs.lemmas.Str.{digit_value_digit}
use Rattle.std.specs.Char.{digit_value, is_ascii_digit}
use Rattle.std.specs.Str.{all_ascii_digits}
use Rattle.std.specs.Str.Parse.{digits_value_after}

-- one more digit
pub digit_more : (text : List ℕ) (i n : ℕ) → i < length text → digits_value_after 10 n (drop i text) ≡ digits_value_after 10 (n * 10 + digit_value (get_or text i 0)) (drop (i + 1) text)
digit_more text i n h = rw (drop-cons text i 0, add-one) refl

pub digits_more : (text : List ℕ) (i : ℕ) → i < length text → is_ascii_digit (get_or text i 0) ≡ true → all_ascii_digits (drop i text) ≡ all_ascii_digits (drop (i + 1) text)
digits_more text i h e = rw (drop-cons text i 0, e, add-one) refl

pub no_digit : (text : List ℕ) (i : ℕ) → i < length text → is_ascii_digit (get_or text i 0) ≡ false → all_ascii_digits (drop i text) ≡ false
no_digit text i h e = rw (drop-cons text i 0, e) refl

-- more digits give no smaller number
pub le_value_after : (n : ℕ) (ds : List ℕ) → n ≤ digits_value_after 10 n ds
le_value_after n [] = omega arith
le_value_after n (c ∷ cs) = omega (arith, le_value_after (n * 10 + digit_value c) cs)

-- a size that is beyond stays there
pub min_onto : (m most : ℕ) (ds : List ℕ) → min (digits_value_after 10 (min m most) ds) most ≡ min (digits_value_after 10 m ds) most
min_onto m most ds = elim (cases_lt m most) [
  | inl less ↦ (let same : min m most ≡ m = omega arith in rw same refl)
  | inr more ↦ (let same : min m most ≡ most = omega arith in rw same (omega (arith, le_value_after most ds, le_value_after m ds)))
]

-- one more digit, where the size stops growing beyond
pub size_more : (text : List ℕ) (i n m most : ℕ) → i < length text → 48 ≤ get_or text i 0 → get_or text i 0 ≤ 57 → m ≡ min (n * 10 + (get_or text i 0 - 48)) most →
    min (digits_value_after 10 n (drop i text)) most ≡ min (digits_value_after 10 m (drop (i + 1) text)) most
size_more text i n m most h low high e =
    let is : digit_value (get_or text i 0) ≡ get_or text i 0 - 48 = omega (arith, digit_value_digit (get_or text i 0) (low, high)) in
    rw (digit_more text i n h, is, e) (sym (min_onto (n * 10 + (get_or text i 0 - 48)) most (drop (i + 1) text)))
