-- Spaces at the ends of a text, and digits one by one.
use Rattle.std.proofs.Common.{◌≡◌, ◌∙◌, ◌<◌, ◌≤◌, ◌+◌, ◌*◌, ◌^◌, ◌∷◌, ℕ, List, [], true, false, refl, ap, arith, length, take, drop, get_or, reverse, add-one, drop-cons, nat_eq}
use Rattle.std.specs.Char.{digit_value, is_ascii_digit}
use Rattle.std.specs.Str.{all_ascii_digits}
use Rattle.std.specs.Str.Parse.{digits_value_after}
use Rattle.std.proofs.lemmas.List.{drop_all, reverse-append, reverse-reverse, take_more}
use Rattle.std.proofs.Math.Nat.{pow-le-pow_right}
use Rattle.std.proofs.lemmas.Grind.{pow_more}
use Rattle.rail_base.specs.Numbers.{after_spaces, before_spaces}

-- a space at a place goes
pub front_space : (text : List ℕ) (i : ℕ) → i < length text → get_or text i 0 ≡ 32 → after_spaces (drop i text) ≡ after_spaces (drop (i + 1) text)
front_space text i h e = rw (drop-cons text i 0, e, add-one) refl

-- anything else ends them
pub front_other : (text : List ℕ) (i : ℕ) → i < length text → nat_eq (get_or text i 0) 32 ≡ false → after_spaces (drop i text) ≡ drop i text
front_other text i h e = rw (drop-cons text i 0, e) refl

pub front_end : (text : List ℕ) (i : ℕ) → length text ≤ i → after_spaces (drop i text) ≡ drop i text
front_end text i h = rw (drop_all i text h) refl

pub back_space : (text : List ℕ) (i : ℕ) → i < length text → get_or text i 0 ≡ 32 → before_spaces (take (i + 1) text) ≡ before_spaces (take i text)
back_space text i h e = rw (take_more text i 0 h, e, reverse-append (take i text) (32 ∷ [])) refl

pub back_other : (text : List ℕ) (i : ℕ) → i < length text → nat_eq (get_or text i 0) 32 ≡ false → before_spaces (take (i + 1) text) ≡ take (i + 1) text
back_other text i h e =
    let last = take_more text i 0 h in
    let turned : reverse (take (i + 1) text) ≡ get_or text i 0 ∷ reverse (take i text) = rw last (reverse-append (take i text) (get_or text i 0 ∷ [])) in
    let kept : after_spaces (reverse (take (i + 1) text)) ≡ reverse (take (i + 1) text) = rw (turned, e) refl in
    ap reverse kept ∙ reverse-reverse (take (i + 1) text)

-- one more digit
pub digit_more : (text : List ℕ) (i n : ℕ) → i < length text → digits_value_after 10 n (drop i text) ≡ digits_value_after 10 (n * 10 + digit_value (get_or text i 0)) (drop (i + 1) text)
digit_more text i n h = rw (drop-cons text i 0, add-one) refl

pub digits_more : (text : List ℕ) (i : ℕ) → i < length text → is_ascii_digit (get_or text i 0) ≡ true → all_ascii_digits (drop i text) ≡ all_ascii_digits (drop (i + 1) text)
digits_more text i h e = rw (drop-cons text i 0, e, add-one) refl

pub no_digit : (text : List ℕ) (i : ℕ) → i < length text → is_ascii_digit (get_or text i 0) ≡ false → all_ascii_digits (drop i text) ≡ false
no_digit text i h e = rw (drop-cons text i 0, e) refl

-- how large i + 1 digits are
pub digits_small : (n d i : ℕ) → n < 10 ^ i → d < 10 → 10 * n + d < 10 ^ (i + 1)
digits_small n d i h k = omega (arith, pow_more 10 i)

pub digits_fit : (n i : ℕ) → n < 10 ^ i → i ≤ 19 → n < 2 ^ 64
digits_fit n i h k = omega (arith, pow-le-pow_right {n = 10} (omega arith) {j = 19} k)
