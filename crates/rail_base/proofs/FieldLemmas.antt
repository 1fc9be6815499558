-- The first field of a text, and the rest.
use Rattle.std.proofs.Common.{ℕ, ◌≡◌, ◌<◌, ◌≤◌, ◌+◌, ◌-◌, List, [], ◌∷◌, Option, Some, None, Bool, cond, length, drop, take, eqb, ltb, refl, arith, length-drop, inl, inr}
use Rattle.std.specs.List.{position, position_or_len, slice_split}
use Rattle.std.proofs.lemmas.List.{take_all}
use Rattle.std.proofs.lemmas.List.Splits.{slice_split_first}
use Rattle.std.proofs.lemmas.Bool.{cases_lt, cases_Bool, lt-ltb, le-ltb}
use Rattle.rail_base.specs.Lines.{fields_of}

abbrev is_space : ℕ → Bool
is_space b = eqb b 32

found : (k n end : ℕ) → cond (ltb k n) (Some k) None ≡ Some end → (k ≡ end) × (k < n)
found k n end h = elim (cases_lt k n) [
  | inl l ↦ (let e = rw (lt-ltb k n l) at h in (cc, l))
  | inr l ↦ (let e = rw (le-ltb k n l) at h in absurd (cc e))
]

not_found : (k n : ℕ) → cond {A = Option ℕ} (ltb k n) (Some k) None ≡ None → n ≤ k
not_found k n h = elim (cases_lt k n) [
  | inl l ↦ (let e = rw (lt-ltb k n l) at h in absurd (cc e))
  | inr l ↦ l
]

pub first_field : (text : List ℕ) (end : ℕ) → position is_space text ≡ Some end →
    fields_of text ≡ take end text ∷ fields_of (take (length text - (end + 1)) (drop (end + 1) text))
first_field text end h =
    let f = found (position_or_len is_space text) (length text) end h in
    let whole : take (length text - (end + 1)) (drop (end + 1) text) ≡ drop (end + 1) text = take_all (length text - (end + 1)) (drop (end + 1) text) (omega (arith, length-drop {A = ℕ})) in
    rw whole (rw (← f.0) (slice_split_first is_space text 0 f.1))

-- a list in which no element passes isn't parted
pub slice_split-alone : (p : ℕ → Bool) (text : List ℕ) → length text ≤ position_or_len p text → slice_split p text ≡ text ∷ []
slice_split-alone p [] h = refl
slice_split-alone p (x ∷ xs) h = elim (cases_Bool (p x)) [
  | inl space ↦ absurd (omega (arith, rw space at h))
  | inr other ↦ (let g = rw other at h in rw other (rw (slice_split-alone p xs (omega arith)) refl))
]

pub one_field : (text : List ℕ) → position is_space text ≡ None → fields_of text ≡ text ∷ []
one_field text h = slice_split-alone is_space text (not_found (position_or_len is_space text) (length text) h)
