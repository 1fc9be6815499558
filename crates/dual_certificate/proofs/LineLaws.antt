-- Lines of a word and a number, the line of the prices, and the line of a point, both ways.
use Rattle.std.proofs.Common.{◌≡◌, ◌<◌, ◌≤◌, ◌∷◌, ◌++◌, ◌∙◌, ℕ, ℤ, ◌≤ℤ◌, List, [], true, false, Ok, refl, sym, ap, subst, arith, length, map, codes, inl, ◌^◌, eqb}
use Rattle.std.specs.List.{AllByRecursion}
use Rattle.std.specs.Fmt.{decimal, signed_decimal}
use Rattle.std.specs.Int.RustNames.{unsigned_abs, int_le}
use Rattle.std.proofs.lemmas.Int.{ints}
use Rattle.std.proofs.lemmas.List.Splits.{join_with_byte-slice_split, length-slice_split}
use Rattle.rail_base.specs.Lines.{fields_of}
use Rattle.rail_base.specs.Numbers.{is_within}
use Rattle.rail_base.specs.Texts.{line}
use Rattle.dual_certificate.specs.Grammar.{◌>>=◌, formed, ranged, line_at, behind, number_at, prices_read, prices_at}
use Rattle.dual_certificate.specs.Numbers.{number_spelled}
use Rattle.dual_certificate.specs.Text.{IsModest, fields_text, one_line, prices_line}
use Rattle.dual_certificate.proofs.FieldLists.{both_true}
use Rattle.dual_certificate.proofs.Numerals.{Lacks, lacks-append, decimal_lacks, signed_lacks, number_takes, number_again}
use Rattle.dual_certificate.proofs.Cuts.{bind_ok, ok_is, formed_ok, ranged_ok, fields_again, line_takes, line_again, behind_takes}
use Rattle.dual_certificate.proofs.ListLaws.{PricesFit, prices_take, prices_again, int_le_is, is_int_le}

-- ---- a word and a number

-- a number within 2^100 that is read from a range
pub record InRange (low high z : ℤ) : Type 0 where
  pub above : low ≤ℤ z
  pub below : z ≤ℤ high

pub within_is : (low high z : ℤ) → is_within low high z ≡ true → InRange low high z
within_is low high z h = let b = both_true (int_le low z) (int_le z high) h in record { above = int_le_is low z b.0; below = int_le_is z high b.1 }

pub is_within_so : (low high z : ℤ) → low ≤ℤ z → z ≤ℤ high → is_within low high z ≡ true
is_within_so low high z h g = rw (is_int_le low z h, is_int_le z high g) refl

modest_between : (low high z : ℤ) → IsModest low → IsModest high → InRange low high z → unsigned_abs z ≤ 2 ^ 100
modest_between low high z l h i = omega (arith, ints, l, h, i.above, i.below)

pub number_line_takes : (n : ℕ) (word : List ℕ) (low high : ℤ) (text : List ℕ) (x : ℤ × List ℕ) → IsModest low → IsModest high → number_at n word low high text ≡ Ok x
    → (text ≡ one_line word x.0 ++ x.1) × InRange low high x.0
unfolding number_at one_line
number_line_takes n word low high text x l h e =
    let a = bind_ok (line_at n text) (λ l. behind n word l.0 >>= λ rest. formed n (number_spelled rest) >>= λ number. ranged n (is_within low high number) number >>= λ z. Ok (z, l.1)) x e in
    let b = bind_ok (behind n word a.0.0) (λ rest. formed n (number_spelled rest) >>= λ number. ranged n (is_within low high number) number >>= λ z. Ok (z, a.0.1)) x a.2 in
    let c = bind_ok (formed n (number_spelled b.0)) (λ number. ranged n (is_within low high number) number >>= λ z. Ok (z, a.0.1)) x b.2 in
    let d = bind_ok (ranged n (is_within low high c.0) c.0) (λ z. Ok (z, a.0.1)) x c.2 in
    let r = ranged_ok n (is_within low high c.0) c.0 d.0 d.1 in
    let i = within_is low high c.0 r.0 in
    let spelled : b.0 ≡ signed_decimal c.0 = number_takes b.0 c.0 (formed_ok n (number_spelled b.0) c.0 c.1) (modest_between low high c.0 l h i) in
    let inside : a.0.0 ≡ word ++ signed_decimal c.0 = behind_takes n word a.0.0 b.0 b.1 ∙ ap (λ (t : List ℕ). word ++ t) spelled in
    let whole : text ≡ line (word ++ signed_decimal c.0) ++ a.0.1 = line_takes n text a.0 a.1 ∙ ap (λ (t : List ℕ). line t ++ a.0.1) inside in
    let is : (c.0, a.0.1) ≡ x = ap (λ (z : ℤ). (z, a.0.1)) r.1 ∙ ok_is (d.0, a.0.1) x d.2 in
    subst (λ (y : ℤ × List ℕ). (text ≡ line (word ++ signed_decimal y.0) ++ y.1) × InRange low high y.0) is (whole, i)

pub number_line_again : (n : ℕ) (word : List ℕ) (low high z : ℤ) (rest : List ℕ) → Lacks 10 word → ((r : List ℕ) → behind n word (word ++ r) ≡ Ok r) → unsigned_abs z ≤ 2 ^ 100 → low ≤ℤ z → z ≤ℤ high
    → number_at n word low high (one_line word z ++ rest) ≡ Ok (z, rest)
unfolding number_at one_line
number_line_again n word low high z rest lacks word_is small h g =
    rw (
      line_again n (word ++ signed_decimal z) rest (lacks-append 10 word (signed_decimal z) lacks (signed_lacks 10 z (omega (arith, small)) (inl (omega arith)) refl)),
      word_is (signed_decimal z),
      number_again z small,
      is_within_so low high z h g,
    ) refl

-- ---- prices

-- a text has one field at least
pub some_fields : {B : Type 0} (text : List ℕ) (f : B → List ℕ) (ys : List B) → fields_of text ≡ map f ys → 1 ≤ length ys
some_fields text f [] e = absurd (omega (arith, ap length e, length-slice_split (λ b. eqb b 32) text))
some_fields text f (y ∷ ys) e = omega arith

-- fields that lack a byte, joined by another one
pub fields_lack : {B : Type 0} (b : ℕ) (f : B → List ℕ) (ys : List B) → eqb 32 b ≡ false → AllByRecursion (λ y. Lacks b (f y)) ys → Lacks b (fields_text (map f ys))
fields_lack b f [] e h = tt
fields_lack b f (y ∷ []) e h = h.0
fields_lack b f (y ∷ z ∷ ys) e h = lacks-append b (f y) (32 ∷ fields_text (map f (z ∷ ys))) h.0 (e, fields_lack b f (z ∷ ys) e h.1)

each_lacks : {B : Type 0} (f : B → List ℕ) (ys : List B) → AllByRecursion (λ y. Lacks 32 (f y)) ys → AllByRecursion (Lacks 32) (map f ys)
each_lacks f [] h = tt
each_lacks f (y ∷ ys) h = (h.0, each_lacks f ys h.1)

pub fields_back : {B : Type 0} (f : B → List ℕ) (ys : List B) → 1 ≤ length ys → AllByRecursion (λ y. Lacks 32 (f y)) ys → fields_of (fields_text (map f ys)) ≡ map f ys
fields_back f [] some h = absurd (omega arith)
fields_back f (y ∷ ys) some h = fields_again (map f (y ∷ ys)) (omega arith) (each_lacks f (y ∷ ys) h)

pub prices_line_takes : (text : List ℕ) (x : List ℕ × List ℕ) → prices_at text ≡ Ok x → (text ≡ prices_line x.0 ++ x.1) × PricesFit 64 x.0 × (1 ≤ length x.0)
unfolding prices_at prices_line
prices_line_takes text x e =
    let a = bind_ok (line_at 5 text) (λ l. behind 5 (codes "prices ") l.0 >>= λ rest. prices_read true 64 (fields_of rest) >>= λ prices. Ok (prices, l.1)) x e in
    let b = bind_ok (behind 5 (codes "prices ") a.0.0) (λ rest. prices_read true 64 (fields_of rest) >>= λ prices. Ok (prices, a.0.1)) x a.2 in
    let c = bind_ok (prices_read true 64 (fields_of b.0)) (λ prices. Ok (prices, a.0.1)) x b.2 in
    let p = prices_take true (fields_of b.0) c.0 c.1 in
    let joined : b.0 ≡ fields_text (map decimal c.0) = sym (join_with_byte-slice_split 32 b.0) ∙ ap fields_text p.0 in
    let inside : a.0.0 ≡ codes "prices " ++ fields_text (map decimal c.0) = behind_takes 5 (codes "prices ") a.0.0 b.0 b.1 ∙ ap (λ (t : List ℕ). codes "prices " ++ t) joined in
    let whole : text ≡ line (codes "prices " ++ fields_text (map decimal c.0)) ++ a.0.1 = line_takes 5 text a.0 a.1 ∙ ap (λ (t : List ℕ). line t ++ a.0.1) inside in
    subst (λ (y : List ℕ × List ℕ). (text ≡ line (codes "prices " ++ fields_text (map decimal y.0)) ++ y.1) × PricesFit 64 y.0 × (1 ≤ length y.0)) (ok_is (c.0, a.0.1) x c.2)
    (whole, p.1, some_fields b.0 decimal c.0 p.0)

price_lacks : (b : ℕ) (ps : List ℕ) → b < 48 → AllByRecursion (λ p. p ≤ 2 ^ 50) ps → AllByRecursion (λ p. Lacks b (decimal p)) ps
price_lacks b [] low h = tt
price_lacks b (p ∷ ps) low h = (decimal_lacks b p (omega (arith, h.0)) (inl low), price_lacks b ps low h.1)

pub prices_line_again : (ps rest : List ℕ) → PricesFit 64 ps → 1 ≤ length ps → prices_at (prices_line ps ++ rest) ≡ Ok (ps, rest)
unfolding prices_at prices_line
prices_line_again ps rest h some =
    let inside : Lacks 10 (codes "prices " ++ fields_text (map decimal ps)) =
    lacks-append 10 (codes "prices ") (fields_text (map decimal ps)) (refl, (refl, (refl, (refl, (refl, (refl, (refl, tt))))))) (fields_lack 10 decimal ps refl (price_lacks 10 ps (omega arith) h.1)) in
    rw (line_again 5 (codes "prices " ++ fields_text (map decimal ps)) rest inside, fields_back decimal ps some (price_lacks 32 ps (omega arith) h.1), prices_again ps h) refl
