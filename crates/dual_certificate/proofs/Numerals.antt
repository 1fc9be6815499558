-- Numbers and their one spelling.
use Rattle.std.proofs.Common.{◌≡◌, ◌<◌, ◌≤◌, ◌+◌, ◌*◌, ◌/◌, ◌%◌, ◌^◌, ◌∷◌, ◌++◌, ◌&&◌, ◌||◌, ◌∙◌, ℕ, zero, suc, ℤ, pos, negsuc, List, [], Bool, true, false, not, Option, Some, None, refl, sym, ap, arith, length, get_or, min, eqb, append_assoc, length-append, option_map, drop, inl, inr, ◌⊎◌}
use Rattle.std.proofs.Math.ListN.{get_or-append}
use Rattle.std.specs.Int.{IsInRange}
use Rattle.std.specs.Prelude.{nat_lt, nat_le, if◌then◌else◌}
use Rattle.std.specs.Char.{digit_value}
use Rattle.std.specs.Fmt.{decimal, signed_decimal}
use Rattle.std.specs.Int.RustNames.{unsigned_abs}
use Rattle.std.specs.Str.{all_ascii_digits}
use Rattle.std.specs.Str.Parse.{AllDigits, digits_value, digits_value_after, starts_with_minus}
use Rattle.std.proofs.lemmas.Fmt.{decimal_is_IsNumeral_wide, decimal_digit, decimal_step_wide, decimal_by_steps_wide}
use Rattle.std.proofs.lemmas.Str.{digit_value_digit}
use Rattle.std.proofs.lemmas.Str.Parse.{digit_from_value, digit_at, tells_all_ascii_digits, numerals_by_value}
use Rattle.std.proofs.lemmas.List.{append-nil}
use Rattle.std.proofs.lemmas.Bool.{cases_Bool, eqb-true, ne_eqb, lt-ltb}
use Rattle.std.proofs.lemmas.Bool.Decides.{nat_tests}
use Rattle.dual_certificate.specs.Numbers.{is_shortest, size_spelled, below_zero, number_spelled}
use Rattle.dual_certificate.proofs.Digits.{le_value_after}

-- no byte of a text is this one
abbrev pub Lacks : ℕ → List ℕ → Type 0
Lacks b [] = Unit {0}
Lacks b (c ∷ cs) = (eqb c b ≡ false) × Lacks b cs

pub lacks-append : (b : ℕ) (xs ys : List ℕ) → Lacks b xs → Lacks b ys → Lacks b (xs ++ ys)
lacks-append b [] ys h g = g
lacks-append b (x ∷ xs) ys h g = (h.0, lacks-append b xs ys h.1 g)

-- digits with no leading zero are what `decimal` writes of their value
decimal_after : (n : ℕ) (ds : List ℕ) → 0 < n → AllDigits 10 ds → digits_value_after 10 n ds < 10 ^ 64 → decimal (digits_value_after 10 n ds) ≡ decimal n ++ ds
decimal_after n [] some d small = sym (append-nil (decimal n))
decimal_after n (c ∷ cs) some d small =
    let m : ℕ = n * 10 + digit_value c in
    let k = digit_value_digit c (digit_from_value c d.0) in
    let front : m / 10 ≡ n = omega (arith, d.0) in
    let end : 48 + m % 10 ≡ c = omega (arith, d.0) in
    decimal_after m cs (omega arith) d.1 small
    ∙ ap (λ x. x ++ cs) (decimal_step_wide m (omega arith) (omega (arith, le_value_after m cs)) ∙ (λ i. decimal (front i) ++ (end i ∷ [])))
    ∙ append_assoc (decimal n) (c ∷ []) cs

decimal_digits : (ds : List ℕ) → AllDigits 10 ds → 0 < length ds → (get_or ds 0 0 ≡ 48 → length ds ≡ 1) → digits_value 10 ds < 10 ^ 64 → decimal (digits_value 10 ds) ≡ ds
decimal_digits [] d some lead small = absurd (omega arith)
decimal_digits (c ∷ []) d some lead small =
    let k = digit_value_digit c (digit_from_value c d.0) in
    decimal_digit (0 * 10 + digit_value c) (omega (arith, d.0)) ∙ ap (λ x. x ∷ []) (omega arith)
decimal_digits (c ∷ e ∷ cs) d some lead small =
    let k = digit_value_digit c (digit_from_value c d.0) in
    let no : c ≡ 48 → ⊥ = λ z. omega (arith, lead z) in
    let is : 48 + (0 * 10 + digit_value c) ≡ c = omega arith in
    decimal_after (0 * 10 + digit_value c) (e ∷ cs) (omega arith) d.1 small
    ∙ ap (λ x. x ++ (e ∷ cs)) (decimal_digit (0 * 10 + digit_value c) (omega (arith, d.0)) ∙ ap (λ x. x ∷ []) is)

parts_true : (a b c : Bool) → (a && b && c) ≡ true → (a ≡ true) × (b ≡ true) × (c ≡ true)
parts_true true true c h = (refl, refl, h)
parts_true true false c h = absurd (cc h)
parts_true false b c h = absurd (cc h)

not_leading : (n : ℕ) (b : Bool) (lead : ℕ) → (nat_le n 1 || not b) ≡ true → 0 < n → b ≡ true → n ≡ 1
not_leading n true lead h some e = grind (arith, nat_tests)
not_leading n false lead h some e = absurd (cc e)

-- what is spelled so, where it is shortest
shortest_decimal : (ds : List ℕ) → is_shortest ds ≡ true → digits_value 10 ds < 10 ^ 64 → ds ≡ decimal (digits_value 10 ds)
shortest_decimal ds h small =
    let t = parts_true (nat_lt 0 (length ds)) (all_ascii_digits ds) (nat_le (length ds) 1 || not (eqb (get_or ds 0 0) 48)) h in
    let some : 0 < length ds = grind (arith, nat_tests, t.0) in
    let d = (numerals_by_value (λ xs. all_ascii_digits xs ≡ true) tells_all_ascii_digits).to ds t.1 in
    sym (decimal_digits ds d some (λ z. not_leading (length ds) (eqb (get_or ds 0 0) 48) 0 t.2 some (rw z refl)) small)

size_if : (b : Bool) (v n : ℕ) → (if b then Some (min v (2 ^ 100 + 1)) else None) ≡ Some n → n ≤ 2 ^ 100 → (b ≡ true) × (v ≡ n)
size_if true v n e h = let m : min v (2 ^ 100 + 1) ≡ n = cc e in (refl, omega arith)
size_if false v n e h = absurd (cc e)

pub size_takes : (ds : List ℕ) (n : ℕ) → size_spelled ds ≡ Some n → n ≤ 2 ^ 100 → ds ≡ decimal n
size_takes ds n e h =
    let s = size_if (is_shortest ds) (digits_value 10 ds) n e h in
    shortest_decimal ds s.0 (omega (arith, s.1)) ∙ ap decimal s.1

-- what a number's digits begin with
first_more : (ds : List ℕ) (e low : ℕ) → 0 < length ds → low < get_or ds 0 0 → low < get_or (ds ++ e ∷ []) 0 0
first_more ds e low some h = omega (arith, get_or-append ds (e ∷ []) 0 0 some)

first_wide : (n : ℕ) → n < 10 ^ 64 → (0 < length (decimal n)) × (0 < n → 48 < get_or (decimal n) 0 0)
first_wide = decimal_by_steps_wide (λ m ds. (0 < length ds) × (0 < m → 48 < get_or ds 0 0)) (λ m l. (omega arith, λ a. omega arith))
    (λ m ds l h. (omega (arith, length-append ds ((48 + m % 10) ∷ [])), λ a. first_more ds (48 + m % 10) 48 h.0 (h.1 (omega arith))))

or_true : (b : Bool) → (b || not false) ≡ true
or_true true = refl
or_true false = refl

no_leading : (n first : ℕ) (len : ℕ) → (0 < n → 48 < first) → (n ≡ 0 → len ≡ 1) → (nat_le len 1 || not (eqb first 48)) ≡ true
no_leading zero first len h g = rw (g refl) refl
no_leading (suc n) first len h g = rw (ne_eqb first 48 (λ e. omega (arith, h (omega arith)))) (or_true (nat_le len 1))

pub decimal_shortest : (n : ℕ) → n < 10 ^ 64 → is_shortest (decimal n) ≡ true
decimal_shortest n small =
    let first = first_wide n small in
    let numeral = (decimal_is_IsNumeral_wide n small).0 in
    let digits = (numerals_by_value (λ xs. all_ascii_digits xs ≡ true) tells_all_ascii_digits).from (decimal n) numeral.1 in
    let zero_is : n ≡ 0 → length (decimal n) ≡ 1 = λ e. rw e (ap length (decimal_digit 0 (omega arith))) in
    rw (lt-ltb 0 (length (decimal n)) first.0, digits, no_leading n (get_or (decimal n) 0 0) (length (decimal n)) first.1 zero_is) refl

pub size_again : (n : ℕ) → n ≤ 2 ^ 100 → size_spelled (decimal n) ≡ Some n
size_again n h =
    let value = (decimal_is_IsNumeral_wide n (omega arith)).1 in
    let least : min n (2 ^ 100 + 1) ≡ n = omega arith in
    rw (decimal_shortest n (omega arith), value) (ap (λ m. Some m) least)

no_digit_byte : (b c : ℕ) → IsInRange 48 57 c → (b < 48) ⊎ (57 < b) → c ≡ b → ⊥
no_digit_byte b c k (inl low) e = omega arith
no_digit_byte b c k (inr high) e = omega arith

-- a number's digits have no byte that is no digit
lacks_digits : (b : ℕ) (ds : List ℕ) → AllDigits 10 ds → (b < 48) ⊎ (57 < b) → Lacks b ds
lacks_digits b [] d h = tt
lacks_digits b (c ∷ cs) d h = (ne_eqb c b (λ e. no_digit_byte b c (digit_from_value c d.0) h e), lacks_digits b cs d.1 h)

pub decimal_lacks : (b n : ℕ) → n < 10 ^ 64 → (b < 48) ⊎ (57 < b) → Lacks b (decimal n)
decimal_lacks b n small h = lacks_digits b (decimal n) (decimal_is_IsNumeral_wide n small).0.1 h

pub signed_lacks : (b : ℕ) (z : ℤ) → unsigned_abs z < 10 ^ 64 → ((b < 48) ⊎ (57 < b)) → eqb 45 b ≡ false → Lacks b (signed_decimal z)
signed_lacks b (pos n) small h e = decimal_lacks b n small h
signed_lacks b (negsuc n) small h e = (e, decimal_lacks b (suc n) (omega (arith, small)) h)

-- numbers with their sign
below_takes : (o : Option ℕ) (z : ℤ) → below_zero o ≡ Some z → (n : ℕ) × (o ≡ Some (suc n)) × (z ≡ negsuc n)
below_takes None z e = absurd (cc e)
below_takes (Some zero) z e = absurd (cc e)
below_takes (Some (suc n)) z e = (n, refl, cc e)

above_takes : (o : Option ℕ) (z : ℤ) → option_map pos o ≡ Some z → (n : ℕ) × (o ≡ Some n) × (z ≡ pos n)
above_takes None z e = absurd (cc e)
above_takes (Some n) z e = (n, refl, cc e)

minus_first : (text : List ℕ) → starts_with_minus text ≡ true → text ≡ 45 ∷ drop 1 text
minus_first [] h = absurd (cc h)
minus_first (c ∷ cs) h = ap (λ x. x ∷ cs) (eqb-true c 45 h)

pub number_takes : (text : List ℕ) (z : ℤ) → number_spelled text ≡ Some z → unsigned_abs z ≤ 2 ^ 100 → text ≡ signed_decimal z
number_takes text z e h = elim (cases_Bool (starts_with_minus text)) [
  | inl minus ↦ (let t = below_takes (size_spelled (drop 1 text)) z (rw minus at e) in
      minus_first text minus ∙ ap (λ ds. 45 ∷ ds) (size_takes (drop 1 text) (suc t.0) t.1 (omega (arith, ap unsigned_abs t.2))) ∙ sym (ap signed_decimal t.2))
  | inr plain ↦ (let t = above_takes (size_spelled text) z (rw plain at e) in
      size_takes text t.0 t.1 (omega (arith, ap unsigned_abs t.2)) ∙ sym (ap signed_decimal t.2))
]

plain_start : (n : ℕ) → n < 10 ^ 64 → starts_with_minus (decimal n) ≡ false
plain_start n small = ne_eqb (get_or (decimal n) 0 0) 45 (λ e. omega (arith, digit_at (decimal n) 0 (decimal_is_IsNumeral_wide n small).0.1 (decimal_is_IsNumeral_wide n small).0.0))

pub number_again : (z : ℤ) → unsigned_abs z ≤ 2 ^ 100 → number_spelled (signed_decimal z) ≡ Some z
number_again (pos n) h = rw (plain_start n (omega (arith, h)), size_again n (omega (arith, h))) refl
number_again (negsuc n) h = rw (size_again (suc n) (omega (arith, h))) refl
