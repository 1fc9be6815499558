-- Texts that are cut at a byte, lines and fields, both ways.
use Rattle.std.proofs.Common.{◌≡◌, ◌<◌, ◌+◌, ◌∷◌, ◌++◌, ◌∙◌, ℕ, List, [], Bool, true, false, Option, Some, None, Result, Ok, Err, refl, sym, ap, arith, length, get_or, take, drop, cond, eqb, append_assoc, length-append, inl, inr}
use Rattle.std.specs.List.{position_or_len, slice_split, AllByRecursion}
use Rattle.std.specs.Str.{bytes_eq}
use Rattle.std.proofs.Math.Seq.{take-append_seam, drop-append-add}
use Rattle.std.proofs.lemmas.List.{take-append-drop}
use Rattle.std.proofs.lemmas.List.Sums.{split_at_first, passes_at_first}
use Rattle.std.proofs.lemmas.Slice.Eq.{bytes_eq-Decides}
use Rattle.std.proofs.lemmas.Bool.{cases_lt, cases_Bool, lt-ltb, le-ltb, eqb-true}
use Rattle.std.proofs.lemmas.Bool.Decides.{Decides-eqb}
use Rattle.rail_base.specs.Lines.{begins, fields_of}
use Rattle.rail_base.specs.Texts.{line}
use Rattle.dual_certificate.specs.declared.fault.CertFault.{CertFault}
use Rattle.dual_certificate.specs.declared.fault.CertFault.TheVariants.{Form}
use Rattle.dual_certificate.specs.Grammar.{◌>>=◌, cut, formed, ranged, line_at, behind, exact_at}
use Rattle.dual_certificate.specs.Text.{fields_text}
use Rattle.dual_certificate.proofs.Numerals.{Lacks}

-- ---- steps of reading

pub bind_ok : {A B : Type 0} (r : Result A CertFault) (f : A → Result B CertFault) (y : B) → (r >>= f) ≡ Ok y → (x : A) × (r ≡ Ok x) × (f x ≡ Ok y)
bind_ok (Ok x) f y e = (x, refl, e)
bind_ok (Err d) f y e = absurd (cc e)

abbrev done : {A : Type 0} → A → Result A CertFault
done x = Ok x

pub ok_is : {A : Type 0} (x y : A) → done x ≡ done y → x ≡ y
ok_is x y e = cc

pub formed_ok : {A : Type 0} (n : ℕ) (o : Option A) (x : A) → formed n o ≡ Ok x → o ≡ Some x
formed_ok n None x e = absurd (cc e)
formed_ok n (Some y) x e = ap (λ z. Some z) (ok_is y x e)

pub ranged_ok : {A : Type 0} (n : ℕ) (b : Bool) (x y : A) → ranged n b x ≡ Ok y → (b ≡ true) × (x ≡ y)
ranged_ok n true x y e = (refl, ok_is x y e)
ranged_ok n false x y e = absurd (cc e)

-- ---- cuts

some_is : {A : Type 0} (x y : A) → Some x ≡ Some y → x ≡ y
some_is x y e = cc e

pub cut_takes : (b : ℕ) (text : List ℕ) (p : List ℕ × List ℕ) → cut b text ≡ Some p → text ≡ p.0 ++ b ∷ p.1
cut_takes b text p e = elim (cases_lt (position_or_len (λ c. eqb c b) text) (length text)) [
  | inl less ↦ (let k : ℕ = position_or_len (λ c. eqb c b) text in
      let at : get_or text k 0 ≡ b = eqb-true (get_or text k 0) b (passes_at_first (λ c. eqb c b) text 0 less) in
      let whole : text ≡ take k text ++ b ∷ drop (k + 1) text = split_at_first (λ c. eqb c b) text 0 less ∙ ap (λ (c : ℕ). take k text ++ c ∷ drop (k + 1) text) at in
      let pair = some_is (take k text, drop (k + 1) text) p (rw (lt-ltb k (length text) less) at e) in
      whole ∙ ap (λ (q : List ℕ × List ℕ). q.0 ++ b ∷ q.1) pair)
  | inr more ↦ absurd (cc (rw (le-ltb (position_or_len (λ c. eqb c b) text) (length text) more) at e))
]

place_is : (b : ℕ) (l r : List ℕ) → Lacks b l → position_or_len (λ c. eqb c b) (l ++ b ∷ r) ≡ length l
place_is b [] r h = rw ((Decides-eqb b b).1 refl) refl
place_is b (c ∷ cs) r h = rw h.0 (omega (arith, place_is b cs r h.1))

pub cut_again : (b : ℕ) (l r : List ℕ) → Lacks b l → cut b (l ++ b ∷ r) ≡ Some (l, r)
cut_again b l r h =
    let less : length l < length (l ++ b ∷ r) = omega (arith, length-append l (b ∷ r)) in
    rw (place_is b l r h, lt-ltb (length l) (length (l ++ b ∷ r)) less, take-append_seam l (b ∷ r), drop-append-add l (b ∷ r) 1) refl

-- ---- fields

alone : (b : ℕ) (l : List ℕ) → Lacks b l → slice_split (λ c. eqb c b) l ≡ l ∷ []
alone b [] h = refl
alone b (c ∷ cs) h = rw (h.0, alone b cs h.1) refl

parted : (b : ℕ) (l r : List ℕ) → Lacks b l → slice_split (λ c. eqb c b) (l ++ b ∷ r) ≡ l ∷ slice_split (λ c. eqb c b) r
parted b [] r h = rw ((Decides-eqb b b).1 refl) refl
parted b (c ∷ cs) r h = rw (h.0, parted b cs r h.1) refl

pub fields_again : (fs : List (List ℕ)) → 0 < length fs → AllByRecursion (Lacks 32) fs → fields_of (fields_text fs) ≡ fs
fields_again [] some h = absurd (omega arith)
fields_again (f ∷ []) some h = alone 32 f h.0
fields_again (f ∷ g ∷ fs) some h = parted 32 f (fields_text (g ∷ fs)) h.0 ∙ ap (λ (xs : List (List ℕ)). f ∷ xs) (fields_again (g ∷ fs) (omega arith) h.1)

-- ---- lines

pub line_takes : (n : ℕ) (text : List ℕ) (l : List ℕ × List ℕ) → line_at n text ≡ Ok l → text ≡ line l.0 ++ l.1
line_takes n text l e = cut_takes 10 text l (formed_ok n (cut 10 text) l e) ∙ sym (append_assoc l.0 (10 ∷ []) l.1)

pub line_again : (n : ℕ) (l r : List ℕ) → Lacks 10 l → line_at n (line l ++ r) ≡ Ok (l, r)
line_again n l r h = rw (append_assoc l (10 ∷ []) r, cut_again 10 l r h) refl

pub behind_takes : (n : ℕ) (word l r : List ℕ) → behind n word l ≡ Ok r → l ≡ word ++ r
behind_takes n word l r e = elim (cases_Bool (begins word l)) [
  | inl yes_so ↦ (let same : take (length word) l ≡ word = sym ((bytes_eq-Decides word (take (length word) l)).0 yes_so) in
      let rest = ok_is (drop (length word) l) r (rw yes_so at e) in
      sym (take-append-drop (length word) l) ∙ (ap (λ (x : List ℕ). x ++ drop (length word) l) same ∙ ap (λ (x : List ℕ). word ++ x) rest))
  | inr other ↦ absurd (cc (rw other at e))
]

exact_of : (n : ℕ) (word text rest : List ℕ) (l : List ℕ × List ℕ) → text ≡ line l.0 ++ l.1 → (b : Bool) → bytes_eq l.0 word ≡ b → cond b (done l.1) (Err (Form n)) ≡ Ok rest
    → text ≡ line word ++ rest
exact_of n word text rest l h true e g = h ∙ ap (λ (x : List ℕ). line x ++ l.1) ((bytes_eq-Decides l.0 word).0 e) ∙ ap (λ (x : List ℕ). line word ++ x) (ok_is l.1 rest g)
exact_of n word text rest l h false e g = absurd (cc g)

pub exact_takes : (n : ℕ) (word text rest : List ℕ) → exact_at n word text ≡ Ok rest → text ≡ line word ++ rest
unfolding exact_at
exact_takes n word text rest e =
    let l = bind_ok (line_at n text) (λ l. cond (bytes_eq l.0 word) (Ok l.1) (Err (Form n))) rest e in
    exact_of n word text rest l.0 (line_takes n text l.0 l.1) (bytes_eq l.0.0 word) refl l.2

pub exact_again : (n : ℕ) (word rest : List ℕ) → Lacks 10 word → exact_at n word (line word ++ rest) ≡ Ok rest
unfolding exact_at
exact_again n word rest h = rw (line_again n word rest h, (bytes_eq-Decides word word).1 refl) refl
