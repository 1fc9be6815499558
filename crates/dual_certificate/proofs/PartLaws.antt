-- Where the certificate part of a report begins.
use Rattle.std.proofs.Common.{◌≡◌, ◌<◌, ◌+◌, ◌^◌, ◌∷◌, ◌++◌, ◌∙◌, ℕ, suc, ℤ, List, [], true, false, Some, None, refl, sym, ap, subst, arith, length, get_or, take, drop, eqb, length-append, append_assoc, codes, inl, inr}
use Rattle.std.specs.List.{position_or_len}
use Rattle.std.specs.Str.{bytes_eq}
use Rattle.std.proofs.lemmas.List.{take-append-drop, get_or-take, length-take}
use Rattle.std.proofs.lemmas.List.Sums.{fails_before_first}
use Rattle.std.proofs.lemmas.Slice.Eq.{bytes_eq-Decides}
use Rattle.std.proofs.lemmas.Bool.{cases_lt, cases_Bool, lt-ltb, le-ltb}
use Rattle.rail_base.specs.Lines.{begins}
use Rattle.std.specs.Int.RustNames.{unsigned_abs}
use Rattle.rail_base.specs.Texts.{line, spaced}
use Rattle.dual_certificate.specs.Grammar.{cut}
use Rattle.dual_certificate.specs.declared.certificate.Certificate.{Certificate}
use Rattle.dual_certificate.specs.declared.part.Title.{Title}
use Rattle.dual_certificate.specs.declared.part.Title.TheVariants as title
use Rattle.dual_certificate.specs.Part.{title_words, part_from, titled_part, certificate_part, IsPassed}
use Rattle.dual_certificate.specs.Text.{text_of}
use Rattle.dual_certificate.proofs.Numerals.{Lacks, signed_lacks}
use Rattle.dual_certificate.proofs.Cuts.{cut_takes, cut_again}

lacks_each : (b : ℕ) (xs : List ℕ) → ((k : ℕ) → k < length xs → eqb (get_or xs k 0) b ≡ false) → Lacks b xs
lacks_each b [] h = tt
lacks_each b (x ∷ xs) h = (h 0 (omega arith), lacks_each b xs (λ k lt. h (suc k) (omega arith)))

some_is : {A : Type 0} (x y : A) → Some x ≡ Some y → x ≡ y
some_is x y e = cc e

-- what stands before a cut lacks its byte, and so does a text that isn't cut
cut_lacks : (b : ℕ) (text : List ℕ) (p : List ℕ × List ℕ) → cut b text ≡ Some p → Lacks b p.0
cut_lacks b text p e = elim (cases_lt (position_or_len (λ c. eqb c b) text) (length text)) [
  | inl less ↦ (let k : ℕ = position_or_len (λ c. eqb c b) text in
      let pair = some_is (take k text, drop (k + 1) text) p (rw (lt-ltb k (length text) less) at e) in
      subst (λ (q : List ℕ × List ℕ). Lacks b q.0) pair
      (lacks_each b (take k text) (λ i lt. let within : i < k = omega (arith, length-take k text) in rw (get_or-take k text i 0 within) (fails_before_first (λ c. eqb c b) text i 0 within))))
  | inr more ↦ absurd (cc (rw (le-ltb (position_or_len (λ c. eqb c b) text) (length text) more) at e))
]

uncut_lacks : (b : ℕ) (text : List ℕ) → cut b text ≡ None → Lacks b text
uncut_lacks b text e = elim (cases_lt (position_or_len (λ c. eqb c b) text) (length text)) [
  | inl less ↦ absurd (cc (rw (lt-ltb (position_or_len (λ c. eqb c b) text) (length text) less) at e))
  | inr more ↦ lacks_each b text (λ i lt. fails_before_first (λ c. eqb c b) text i 0 (omega arith))
]

-- ---- titles

title_lacks : (t : Title) → Lacks 10 (title_words t)
title_lacks title.Certificate = (refl, (refl, (refl, (refl, (refl, (refl, (refl, (refl, (refl, (refl, (refl, (refl, (refl, tt)))))))))))))
title_lacks title.Costate = (refl, (refl, (refl, (refl, (refl, (refl, (refl, (refl, (refl, tt)))))))))

own_title : (t : Title) (r : List ℕ) → part_from (title_words t) true (title_words t ++ 10 ∷ r) ≡ title_words t ++ 10 ∷ r
own_title title.Certificate r = refl
own_title title.Costate r = refl

-- a text that begins with the title's line is cut behind the title
title_cut : (t : Title) (text : List ℕ) → begins (line (title_words t)) text ≡ true → cut 10 text ≡ Some (title_words t, drop (length (line (title_words t))) text)
title_cut t text h =
    let words : List ℕ = title_words t in
    let n : ℕ = length (line words) in
    let front : take n text ≡ line words = sym ((bytes_eq-Decides (line words) (take n text)).0 h) in
    let whole : text ≡ words ++ 10 ∷ drop n text = sym (take-append-drop n text) ∙ ap (λ (x : List ℕ). x ++ drop n text) front ∙ append_assoc words (10 ∷ []) (drop n text) in
    ap (cut 10) whole ∙ cut_again 10 words (drop n text) (title_lacks t)

-- a line of another text doesn't begin with the title's line
other_line : (t : Title) (text : List ℕ) (p : List ℕ × List ℕ) → cut 10 text ≡ Some p → bytes_eq p.0 (title_words t) ≡ false → begins (line (title_words t)) text ≡ false
other_line t text p e h = elim (cases_Bool (begins (line (title_words t)) text)) [
  | inl title ↦ (let same : title_words t ≡ p.0 = ap (λ q. q.0) (some_is (title_words t, drop (length (line (title_words t))) text) p (sym (title_cut t text title) ∙ e)) in
      absurd (cc (sym h ∙ (bytes_eq-Decides p.0 (title_words t)).1 (sym same))))
  | inr other ↦ other
]

no_line : (t : Title) (text : List ℕ) → cut 10 text ≡ None → begins (line (title_words t)) text ≡ false
no_line t text e = elim (cases_Bool (begins (line (title_words t)) text)) [
  | inl title ↦ absurd (cc (sym (title_cut t text title) ∙ e))
  | inr other ↦ other
]

-- within a line
within_line : (words l r : List ℕ) → Lacks 10 l → part_from words false (l ++ 10 ∷ r) ≡ part_from words true r
within_line words [] r h = refl
within_line words (c ∷ cs) r h = rw h.0 (within_line words cs r h.1)

within_last : (words l : List ℕ) → Lacks 10 l → part_from words false l ≡ []
within_last words [] h = refl
within_last words (c ∷ cs) h = rw h.0 (within_last words cs h.1)

over_line : (words l r : List ℕ) → Lacks 10 l → begins (line words) (l ++ 10 ∷ r) ≡ false → part_from words true (l ++ 10 ∷ r) ≡ part_from words true r
over_line words [] r h g = rw g refl
over_line words (c ∷ cs) r h g = rw (g, h.0) (within_line words cs r h.1)

over_last : (words l : List ℕ) → Lacks 10 l → begins (line words) l ≡ false → part_from words true l ≡ []
over_last words [] h g = refl
over_last words (c ∷ cs) h g = rw (g, h.0) (within_last words cs h.1)

-- another line is passed over
pub line_passed : (t : Title) (text : List ℕ) (p : List ℕ × List ℕ) → cut 10 text ≡ Some p → bytes_eq p.0 (title_words t) ≡ false → part_from (title_words t) true text ≡ part_from (title_words t) true p.1
line_passed t text p e h =
    let words : List ℕ = title_words t in
    let whole = cut_takes 10 text p e in
    ap (part_from words true) whole ∙ over_line words p.0 p.1 (cut_lacks 10 text p e) (subst (λ (x : List ℕ). begins (line words) x ≡ false) whole (other_line t text p e h))

-- the part begins at its title
pub title_found : (t : Title) (text : List ℕ) (p : List ℕ × List ℕ) → cut 10 text ≡ Some p → bytes_eq p.0 (title_words t) ≡ true → part_from (title_words t) true text ≡ text
title_found t text p e h =
    let title = (bytes_eq-Decides p.0 (title_words t)).0 h in
    let whole : text ≡ title_words t ++ 10 ∷ p.1 = cut_takes 10 text p e ∙ ap (λ (x : List ℕ). x ++ 10 ∷ p.1) title in
    ap (part_from (title_words t) true) whole ∙ own_title t p.1 ∙ sym whole

-- no line is left
pub none_found : (t : Title) (text : List ℕ) → cut 10 text ≡ None → part_from (title_words t) true text ≡ []
none_found t text e = over_last (title_words t) text (uncut_lacks 10 text e) (no_line t text e)

pub cut_shorter : (b : ℕ) (text : List ℕ) (p : List ℕ × List ℕ) → cut b text ≡ Some p → length p.1 < length text
cut_shorter b text p e = omega (arith, ap length (cut_takes b text p e), length-append p.0 (b ∷ p.1))

-- ---- what is passed over

pub passed_append : (a b : List ℕ) → IsPassed a → IsPassed b → IsPassed (a ++ b)
passed_append a b h g t rest = ap (titled_part t) (append_assoc a b rest) ∙ h t (b ++ rest) ∙ g t rest

-- a line that doesn't begin as a title does
pub passed_line : (l : List ℕ) → Lacks 10 l → ((r : List ℕ) → begins (line (codes "certificate 1")) (l ++ 10 ∷ r) ≡ false)
    → ((r : List ℕ) → begins (line (codes "costate 1")) (l ++ 10 ∷ r) ≡ false) → IsPassed (line l)
passed_line l lacks other more title.Certificate rest = ap certificate_part (append_assoc l (10 ∷ []) rest) ∙ over_line (codes "certificate 1") l rest lacks (other rest)
passed_line l lacks other more title.Costate rest =
    ap (titled_part title.Costate) (append_assoc l (10 ∷ []) rest) ∙ over_line (codes "costate 1") l rest lacks (more rest)

pub spaced_lacks : (z : ℤ) → unsigned_abs z < 10 ^ 64 → Lacks 10 (spaced z)
spaced_lacks z small = (refl, signed_lacks 10 z small (inl (omega arith)) refl)

-- a certificate's text is its own certificate part
pub part_of_text : (c : Certificate) → certificate_part (text_of c) ≡ text_of c
unfolding text_of
part_of_text c = refl
