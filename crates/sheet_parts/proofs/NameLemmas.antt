-- Names that are UTF-8, and the first characters of a text.
use Rattle.std.proofs.Common.{ℕ, zero, suc, ◌≡◌, ◌<◌, ◌+◌, ◌∙◌, List, [], ◌∷◌, ◌++◌, true, false, Result, Ok, Err, MatchResult, IsUtf8, is_ok, length, take, drop, get_or, refl, sym, ap, inl, inr, add-one, drop-cons, append_assoc}
use Rattle.std.specs.Str.{is_utf8}
use Rattle.std.proofs.lemmas.Bool.{cases_Bool}
use Rattle.std.proofs.lemmas.List.{take_more}
use Rattle.std.proofs.lemmas.Str.{is_utf8-from_IsUtf8, IsUtf8-from_is_utf8}
use Rattle.sheet_parts.specs.Names.{goes_on, first_characters}

not_utf8 : (bs : List ℕ) → (IsUtf8 bs → ⊥) → is_utf8 bs ≡ false
not_utf8 bs h = elim (cases_Bool (is_utf8 bs)) [ inl valid ↦ absurd (h (IsUtf8-from_is_utf8 bs valid)) | inr other ↦ other ]

-- what a test for UTF-8 tells
pub told : {X E : Type 0} (P : X → Type 0) (Q : E → Type 0) (r : Result X E) (bs : List ℕ)
    → MatchResult r (λ s. P s × IsUtf8 bs) (λ e. (IsUtf8 bs → ⊥) × Q e) → is_ok r ≡ is_utf8 bs
told P Q (Ok s) bs h = sym (is_utf8-from_IsUtf8 bs h.1)
told P Q (Err e) bs h = sym (not_utf8 bs h.0)

-- a byte that goes on a character
pub goes_on-next : (text : List ℕ) (i left : ℕ) → i < length text → goes_on (get_or text i 0) ≡ true
    → first_characters left (drop i text) ≡ get_or text i 0 ∷ first_characters left (drop (i + 1) text)
goes_on-next text i zero h e = rw (drop-cons text i 0, e, add-one) refl
goes_on-next text i (suc n) h e = rw (drop-cons text i 0, e, add-one) refl

-- a byte that begins one more, and one that begins one too many
pub begins-next : (text : List ℕ) (i n : ℕ) → i < length text → goes_on (get_or text i 0) ≡ false
    → first_characters (suc n) (drop i text) ≡ get_or text i 0 ∷ first_characters n (drop (i + 1) text)
begins-next text i n h e = rw (drop-cons text i 0, e, add-one) refl

pub begins-past : (text : List ℕ) (i : ℕ) → i < length text → goes_on (get_or text i 0) ≡ false → first_characters 0 (drop i text) ≡ []
begins-past text i h e = rw (drop-cons text i 0, e) refl

-- the front with one byte more
pub front_more : (text rest more : List ℕ) (i : ℕ) → i < length text → rest ≡ get_or text i 0 ∷ more → take i text ++ rest ≡ take (i + 1) text ++ more
front_more text rest more i h e =
    ap (λ (xs : List ℕ). take i text ++ xs) e ∙ sym (append_assoc (take i text) (get_or text i 0 ∷ []) more) ∙ ap (λ (xs : List ℕ). xs ++ more) (sym (take_more text i 0 h))
