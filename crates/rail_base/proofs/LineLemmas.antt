-- The lines of a text, as `bstr` reads them.
use Rattle.std.proofs.Common.{ℕ, zero, suc, ◌≡◌, ◌<◌, ◌≤◌, ◌+◌, ◌-◌, ◌∙◌, List, [], ◌∷◌, ◌++◌, Bool, length, drop, take, map, get_or, eqb, ltb, refl, arith, length-drop, length-append, inl, inr, add-one}
use Rattle.std.specs.List.{position_or_len, before_first, after_first, slice_split}
use Rattle.std.specs.Str.Lines.{lines, lines_of_parts, strip_carriage_return}
use Rattle.std.proofs.Math.Seq.{take-suc, take-append_seam, get_or-append_seam}
use Rattle.std.proofs.lemmas.List.{take_all, drop_all}
use Rattle.std.proofs.lemmas.List.Splits.{slice_split_first, length-slice_split}
use Rattle.std.proofs.lemmas.List.Sums.{fails_before_first, passes_at_first}
use Rattle.std.proofs.lemmas.Bool.{cases_lt, cases_Bool, lt-ltb, eqb-true, eqb-false, ne_eqb}
use Rattle.bstr.specs.Text.{line_len, lines_from, lines_of, no_cr, without_terminator}
use Rattle.rail_base.proofs.FieldLemmas.{slice_split-alone}

abbrev is_feed : ℕ → Bool
is_feed b = eqb b 10

line_len-found : (xs : List ℕ) → position_or_len is_feed xs < length xs → line_len xs ≡ position_or_len is_feed xs + 1
unfolding line_len
line_len-found [] h = absurd (omega arith)
line_len-found (x ∷ xs) h = elim (cases_Bool (is_feed x)) [
  | inl feed ↦ rw feed refl
  | inr other ↦ (let g = rw other at h in rw other (omega (arith, line_len-found xs (omega arith))))
]

line_len-all : (xs : List ℕ) → length xs ≤ position_or_len is_feed xs → line_len xs ≡ length xs
unfolding line_len
line_len-all [] h = refl
line_len-all (x ∷ xs) h = elim (cases_Bool (is_feed x)) [
  | inl feed ↦ absurd (omega (arith, rw feed at h))
  | inr other ↦ (let g = rw other at h in rw other (omega (arith, line_len-all xs (omega arith))))
]

no_cr-strips : (l : List ℕ) → no_cr l ≡ strip_carriage_return l
no_cr-strips [] = refl
no_cr-strips (x ∷ xs) = rw (lt-ltb 0 (length (x ∷ xs)) (omega arith)) refl

without_terminator-feed : (l : List ℕ) → without_terminator (l ++ 10 ∷ []) ≡ strip_carriage_return l
without_terminator-feed l =
    let n : length (l ++ 10 ∷ []) - 1 ≡ length l = omega (arith, length-append l (10 ∷ [])) in
    let some : 0 < length (l ++ 10 ∷ []) = omega (arith, length-append l (10 ∷ [])) in
    rw (lt-ltb 0 (length (l ++ 10 ∷ [])) some, n, get_or-append_seam l 10 [] 0, take-append_seam l (10 ∷ [])) (no_cr-strips l)

without_terminator-other : (l : List ℕ) → (get_or l (length l - 1) 0 ≡ 10 → ⊥) → without_terminator l ≡ l
without_terminator-other l h = elim (cases_Bool (ltb 0 (length l))) [
  | inl some ↦ rw (some, ne_eqb (get_or l (length l - 1) 0) 10 h) refl
  | inr none ↦ rw none refl
]

parts-first : (x : List ℕ) (parts : List (List ℕ)) → 0 < length parts → lines_of_parts (x ∷ parts) ≡ strip_carriage_return x ∷ lines_of_parts parts
parts-first x [] h = absurd (omega arith)
parts-first x (y ∷ more) h = refl

at_feed : (xs : List ℕ) → position_or_len is_feed xs < length xs → get_or xs (position_or_len is_feed xs) 0 ≡ 10
at_feed xs h = eqb-true (get_or xs (position_or_len is_feed xs) 0) 10 (passes_at_first is_feed xs 0 h)

not_feed : (xs : List ℕ) → 0 < length xs → length xs ≤ position_or_len is_feed xs → get_or xs (length xs - 1) 0 ≡ 10 → ⊥
not_feed xs some h e =
    let no = fails_before_first is_feed xs (length xs - 1) 0 (omega arith) in
    absurd (eqb-false (get_or xs (length xs - 1) 0) 10 no e)

lines_from-none : (n : ℕ) → map without_terminator (lines_from n []) ≡ []
unfolding lines_from
lines_from-none zero = refl
lines_from-none (suc n) = refl

lines_step : (n : ℕ) (xs : List ℕ) → 0 < length xs → length xs ≤ suc n → ((ys : List ℕ) → length ys ≤ n → map without_terminator (lines_from n ys) ≡ lines ys) →
    map without_terminator (take (line_len xs) xs ∷ lines_from n (drop (line_len xs) xs)) ≡ lines xs
lines_step n xs some h rec = elim (cases_lt (position_or_len is_feed xs) (length xs)) [
  | inl within ↦ (let k : ℕ = position_or_len is_feed xs in
      let len : line_len xs ≡ suc k = line_len-found xs within ∙ add-one k in
      let line : take (suc k) xs ≡ take k xs ++ 10 ∷ [] = rw (take-suc xs k 0 within, at_feed xs within) refl in
      let parts = slice_split_first is_feed xs 0 within in
      let more : 0 < length (slice_split is_feed (after_first is_feed xs)) = omega (arith, length-slice_split is_feed (after_first is_feed xs)) in
      let rest : map without_terminator (lines_from n (drop (suc k) xs)) ≡ lines (drop (suc k) xs) = rec (drop (suc k) xs) (omega (arith, length-drop {A = ℕ})) in
      rw (len, line, without_terminator-feed (take k xs), rest, parts, parts-first (before_first is_feed xs) (slice_split is_feed (after_first is_feed xs)) more, add-one k) refl)
  | inr whole ↦ (let len = line_len-all xs whole in
      let rest : map without_terminator (lines_from n (drop (length xs) xs)) ≡ [] = rw (drop_all (length xs) xs (omega arith)) (lines_from-none n) in
      rw (len, take_all (length xs) xs (omega arith), without_terminator-other xs (not_feed xs some whole), rest, slice_split-alone is_feed xs whole, ne_eqb (length xs) 0 (omega arith)) refl)
]

lines_from-lines : (n : ℕ) (xs : List ℕ) → length xs ≤ n → map without_terminator (lines_from n xs) ≡ lines xs
unfolding lines_from
lines_from-lines zero [] h = refl
lines_from-lines zero (x ∷ xs) h = absurd (omega arith)
lines_from-lines (suc n) [] h = refl
lines_from-lines (suc n) (x ∷ xs) h = lines_step n (x ∷ xs) (omega arith) h (lines_from-lines n)

pub lines_of-lines : (xs : List ℕ) → map without_terminator (lines_of xs) ≡ lines xs
lines_of-lines xs = lines_from-lines (length xs) xs (omega arith)
