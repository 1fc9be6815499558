-- Lists of fields, both ways: what is read is spelled so, and what is spelled so is read.
use Rattle.std.proofs.Common.{◌≡◌, ◌<◌, ◌≤◌, ◌+◌, ◌-◌, ◌∷◌, ◌++◌, ◌∙◌, ◌&&◌, ℕ, suc, ℤ, pos, negsuc, ◌+ℤ◌, ◌≤ℤ◌, List, [], Bool, true, false, Option, Some, None, Result, Ok, Err, refl, sym, ap, subst, arith, length, map, inl, inr, ◌^◌, ◌⊎◌, codes}
use Rattle.std.specs.Prelude.{IfSome, nat_lt, if◌then◌else◌, option_map}
use Rattle.std.proofs.lemmas.Fmt.{decimal_is_IsNumeral_wide}
use Rattle.std.specs.List.{AllByRecursion}
use Rattle.std.specs.Fmt.{decimal, signed_decimal}
use Rattle.std.specs.Int.RustNames.{unsigned_abs, int_le}
use Rattle.std.specs.Str.{bytes_eq}
use Rattle.std.proofs.lemmas.Int.{ints}
use Rattle.std.proofs.lemmas.Bool.{cases_Bool, lt-ltb}
use Rattle.std.proofs.lemmas.Bool.Decides.{nat_tests}
use Rattle.std.proofs.lemmas.Slice.Eq.{bytes_eq-Decides}
use Rattle.dual_certificate.specs.declared.certificate.CertCell.{CertCell}
use Rattle.dual_certificate.specs.declared.fault.CertFault.{CertFault}
use Rattle.dual_certificate.specs.Grammar.{formed, ranged, forms, all_fit, fields_read, price_fits, price_next, prices_read, CellForm, both, cell_parts, cell_form, cell_fits, cell_next, cell_made, cells_read, cut, potential_fits, potential_form}
use Rattle.dual_certificate.specs.Numbers.{number_spelled}
use Rattle.dual_certificate.specs.Text.{IsModest, RiseFrom, cell_text, potential_text}
use Rattle.dual_certificate.proofs.FieldLists.{with_front, not_formed, in_range, out_of_range, both_true}
use Rattle.dual_certificate.proofs.Numerals.{Lacks, decimal_lacks, number_takes, number_again}
use Rattle.dual_certificate.proofs.Cuts.{bind_ok, cut_takes, cut_again, ok_is}

nothing_before : {B : Type 0} (read : Result (List B) CertFault) → with_front [] read ≡ read
nothing_before (Ok xs) = refl
nothing_before (Err e) = refl

one_before : {B : Type 0} (x : B) (read : Result (List B) CertFault) (ys : List B) → with_front (x ∷ []) read ≡ Ok ys → (zs : List B) × (read ≡ Ok zs) × (x ∷ zs ≡ ys)
one_before x (Ok zs) ys e = (zs, refl, ok_is (x ∷ zs) ys e)
one_before x (Err d) ys e = absurd (cc e)

there : {A : Type 0} (o : Option A) → (o ≡ None) ⊎ ((x : A) × (o ≡ Some x))
there None = inl refl
there (Some x) = inr (x, refl)

module _ {S A B : Type 0} (form : List ℕ → Option A) (fits : S → A → Bool) (next : S → A → S) (made : A → B) (n : ℕ) where
  -- what is out of range gives nothing
  pub out_gives_none : (s : S) (fields : List (List ℕ)) (ys : List B) → fields_read form fits next made n false s fields ≡ Ok ys → ⊥
  out_gives_none s fields ys e =
      let b = bind_ok (formed n (forms form fields)) (λ xs. ranged n (false && all_fit fits next s xs) (map made xs)) ys e in
      absurd (cc b.2)

  pub good_only : (good : Bool) (s : S) (fields : List (List ℕ)) (ys : List B) → fields_read form fits next made n good s fields ≡ Ok ys → good ≡ true
  good_only true s fields ys e = refl
  good_only false s fields ys e = absurd (out_gives_none s fields ys e)

  module _ (text : B → List ℕ) (Good : S → Type 0) (Chain : S → List B → Type 0) (end : (s : S) → Good s → Chain s [])
      (more : (s : S) (x : A) (ys : List B) → Good s → fits s x ≡ true → Chain (next s x) ys → Chain s (made x ∷ ys))
      (stays : (s : S) (x : A) → Good s → fits s x ≡ true → Good (next s x))
      (back : (s : S) (x : A) (f : List ℕ) → Good s → form f ≡ Some x → fits s x ≡ true → f ≡ text (made x)) where
    pub list_takes : (s : S) (fields : List (List ℕ)) (ys : List B) → Good s → fields_read form fits next made n true s fields ≡ Ok ys → (fields ≡ map text ys) × Chain s ys
    list_takes s [] ys g e = subst (λ (zs : List B). ([] ≡ map text zs) × Chain s zs) (ok_is [] ys e) (refl, end s g)
    list_takes s (f ∷ fs) ys g e = elim (there (form f)) [
      | inl none ↦ absurd (cc (sym (not_formed form fits next made n true s f fs [] none) ∙ (nothing_before (fields_read form fits next made n true s (f ∷ fs)) ∙ e)))
      | inr some ↦ elim (cases_Bool (fits s some.0)) [
        | inl good ↦
            let step = in_range form fits next made n [] s f fs some.0 some.1 good in
            let rest = one_before (made some.0) (fields_read form fits next made n true (next s some.0) fs) ys (sym step ∙ nothing_before (fields_read form fits next made n true s (f ∷ fs)) ∙ e) in
            let behind = list_takes (next s some.0) fs rest.0 (stays s some.0 g good) rest.1 in
            let whole : f ∷ fs ≡ text (made some.0) ∷ map text rest.0 = cc (back s some.0 f g some.1 good, behind.0) in
            subst (λ (zs : List B). (f ∷ fs ≡ map text zs) × Chain s zs) rest.2 (whole, more s some.0 rest.0 g good behind.1)
        | inr bad ↦
            let step = out_of_range form fits next made n [] true s s f fs some.0 some.1 bad in
            absurd (out_gives_none s fs ys (sym (nothing_before (fields_read form fits next made n false s fs)) ∙ sym step ∙ nothing_before (fields_read form fits next made n true s (f ∷ fs)) ∙ e))
      ]
    ]

  module _ (text : B → List ℕ) (Chain : S → List B → Type 0) (raw : B → A)
      (first_ok : (s : S) (y : B) (ys : List B) → Chain s (y ∷ ys) → (form (text y) ≡ Some (raw y)) × (fits s (raw y) ≡ true) × (made (raw y) ≡ y) × Chain (next s (raw y)) ys) where
    pub list_again : (s : S) (ys : List B) → Chain s ys → fields_read form fits next made n true s (map text ys) ≡ Ok ys
    list_again s [] h = refl
    list_again s (y ∷ ys) h =
        let f = first_ok s y ys h in
        sym (nothing_before (fields_read form fits next made n true s (map text (y ∷ ys)))) ∙ in_range form fits next made n [] s (text y) (map text ys) (raw y) f.0 f.1
        ∙ rw (list_again (next s (raw y)) ys f.3, f.2) refl

some_is : {A : Type 0} (x y : A) → Some x ≡ Some y → x ≡ y
some_is x y e = cc e

pub number_first : (n : ℕ) → n ≤ 12000 → number_spelled (decimal n) ≡ Some (pos n)
number_first n h = number_again (pos n) (omega (arith, h))

-- ---- prices

abbrev pub PricesFit : ℕ → List ℕ → Type 0
PricesFit room ps = (length ps ≤ room) × AllByRecursion (λ p. p ≤ 2 ^ 50) ps

pub int_le_is : (p q : ℤ) → int_le p q ≡ true → p ≤ℤ q
int_le_is p q h = grind (arith, ints)

pub is_int_le : (p q : ℤ) → p ≤ℤ q → int_le p q ≡ true
is_int_le p q h = grind (arith, ints)

record PriceBounds (room : ℕ) (p : ℤ) : Type 0 where
  some : 0 < room
  above : pos 0 ≤ℤ p
  below : p ≤ℤ pos (2 ^ 50)

price_bounds : (room : ℕ) (p : ℤ) → price_fits room p ≡ true → PriceBounds room p
price_bounds room p h =
    let a = both_true (nat_lt 0 room) (int_le (pos 0) p && int_le p (pos (2 ^ 50))) h in
    let b = both_true (int_le (pos 0) p) (int_le p (pos (2 ^ 50))) a.1 in
    let some : 0 < room = grind (arith, nat_tests, a.0) in
    record { some = some; above = int_le_is (pos 0) p b.0; below = int_le_is p (pos (2 ^ 50)) b.1 }

pub natural : (p : ℤ) → pos 0 ≤ℤ p → signed_decimal p ≡ decimal (unsigned_abs p)
natural (pos n) h = refl
natural (negsuc n) h = absurd (omega (arith, ints))

pub prices_take : (good : Bool) (fields : List (List ℕ)) (ps : List ℕ) → prices_read good 64 fields ≡ Ok ps → (fields ≡ map decimal ps) × PricesFit 64 ps
prices_take good fields ps e =
    let g = good_only number_spelled price_fits price_next unsigned_abs 5 good 64 fields ps e in
    list_takes number_spelled price_fits price_next unsigned_abs 5 decimal (λ s. Unit {0}) PricesFit (λ s _. (omega arith, tt))
    (λ s x ys _ f chain. let b = price_bounds s x f in (omega (arith, chain.0, b.some), (omega (arith, ints, b.above, b.below), chain.1)))
    (λ s x _ f. tt)
    (λ s x f _ h fit. let b = price_bounds s x fit in number_takes f x h (omega (arith, ints, b.above, b.below)) ∙ natural x b.above)
    64 fields ps tt (subst (λ (b : Bool). prices_read b 64 fields ≡ Ok ps) g e)

price_fits_so : (room n : ℕ) → 0 < room → n ≤ 2 ^ 50 → price_fits room (pos n) ≡ true
price_fits_so room n some h = rw (lt-ltb 0 room some, is_int_le (pos 0) (pos n) (omega (arith, ints)), is_int_le (pos n) (pos (2 ^ 50)) (omega (arith, ints))) refl

pub prices_again : (ps : List ℕ) → PricesFit 64 ps → prices_read true 64 (map decimal ps) ≡ Ok ps
prices_again ps h =
    list_again number_spelled price_fits price_next unsigned_abs 5 decimal PricesFit pos
    (λ s y ys g. (number_again (pos y) (omega (arith, g.1.0)), price_fits_so s y (omega (arith, g.0)) g.1.0, refl, (omega (arith, g.0), g.1.1)))
    64 ps h

-- ---- cells

fits_modest : (q : Option ℤ) → potential_fits q ≡ true → IfSome q IsModest
fits_modest None h = tt
fits_modest (Some z) h =
    let b = both_true (int_le (negsuc (2 ^ 100 - 1)) z) (int_le z (pos (2 ^ 100))) h in
    let low = int_le_is (negsuc (2 ^ 100 - 1)) z b.0 in
    let high = int_le_is z (pos (2 ^ 100)) b.1 in
    omega (arith, ints, low, high)

modest_fits : (q : Option ℤ) → IfSome q IsModest → potential_fits q ≡ true
modest_fits None h = refl
modest_fits (Some z) h = rw (is_int_le (negsuc (2 ^ 100 - 1)) z (omega (arith, ints, h)), is_int_le z (pos (2 ^ 100)) (omega (arith, ints, h))) refl

potential_of : (text : List ℕ) (q : Option ℤ) (b : Bool) (o : Option ℤ) → bytes_eq text (codes "-") ≡ b → number_spelled text ≡ o → (if b then Some None else option_map (λ z. Some z) o) ≡ Some q
    → potential_fits q ≡ true → text ≡ potential_text q
potential_of text q true o h g e fit = (bytes_eq-Decides text (codes "-")).0 h ∙ ap potential_text (some_is None q e)
potential_of text q false None h g e fit = absurd (cc e)
potential_of text q false (Some z) h g e fit =
    let same = some_is (Some z) q e in
    number_takes text z g (subst (λ (r : Option ℤ). IfSome r IsModest) (sym same) (fits_modest q fit)) ∙ ap potential_text same

potential_takes : (text : List ℕ) (q : Option ℤ) → potential_form text ≡ Some q → potential_fits q ≡ true → text ≡ potential_text q
potential_takes text q e fit = potential_of text q (bytes_eq text (codes "-")) (number_spelled text) refl refl e fit

no_minus : (z : ℤ) → unsigned_abs z ≤ 2 ^ 100 → signed_decimal z ≡ codes "-" → ⊥
no_minus (pos n) h e = absurd (cc (subst (Lacks 45) e (decimal_lacks 45 n (omega (arith, h)) (inl (omega arith)))).0)
no_minus (negsuc n) h e = omega (arith, ap length e, (decimal_is_IsNumeral_wide (suc n) (omega (arith, h))).0.0)

potential_again : (q : Option ℤ) → IfSome q IsModest → potential_form (potential_text q) ≡ Some q
potential_again None h = refl
potential_again (Some z) h = elim (cases_Bool (bytes_eq (signed_decimal z) (codes "-"))) [
  | inl minus ↦ absurd (no_minus z h ((bytes_eq-Decides (signed_decimal z) (codes "-")).0 minus))
  | inr other ↦ rw (other, number_again z h) refl
]

both_ok : {A B : Type 0} (a : Option A) (b : Option B) (x : A × B) → both a b ≡ Some x → (a ≡ Some x.0) × (b ≡ Some x.1)
both_ok None b x e = absurd (cc e)
both_ok (Some y) None x e = absurd (cc e)
both_ok (Some y) (Some z) x e = let p = some_is (y, z) x e in (ap (λ q. Some q.0) p, ap (λ q. Some q.1) p)

cell_of : (f : List ℕ) (c : CellForm) (o : Option (List ℕ × List ℕ)) → cut 61 f ≡ o → cell_parts o ≡ Some c → pos 0 ≤ℤ c.0 → c.0 ≤ℤ pos 12000 → potential_fits c.1 ≡ true → f ≡ cell_text (cell_made c)
cell_of f c None h e low high fit = absurd (cc e)
cell_of f c (Some p) h e low high fit =
    let b = both_ok (number_spelled p.0) (potential_form p.1) c e in
    let first : p.0 ≡ decimal (unsigned_abs c.0) = number_takes p.0 c.0 b.0 (omega (arith, ints, low, high)) ∙ natural c.0 low in
    cut_takes 61 f p h ∙ (ap (λ (x : List ℕ). x ++ 61 ∷ p.1) first ∙ ap (λ (x : List ℕ). decimal (unsigned_abs c.0) ++ 61 ∷ x) (potential_takes p.1 c.1 b.1 fit))

cell_again : (c : CertCell) → c.first ≤ 12000 → IfSome c.potential IsModest → cell_form (cell_text c) ≡ Some (pos c.first, c.potential)
cell_again c few h =
    rw (cut_again 61 (decimal c.first) (potential_text c.potential) (decimal_lacks 61 c.first (omega (arith, few)) (inr (omega arith))), number_first c.first few, potential_again c.potential h) refl

-- cells of a point in range, where there is room for so many and they begin there
abbrev pub CellsFit : ℕ → (ℕ × ℤ) → List CertCell → Type 0
CellsFit greatest s cs = (length cs ≤ s.0) × RiseFrom (unsigned_abs s.1) greatest cs

record CellIn (greatest : ℤ) (s : ℕ × ℤ) (c : CellForm) : Type 0 where
  room : 0 < s.0
  above : s.1 ≤ℤ c.0
  below : c.0 ≤ℤ greatest
  potential : potential_fits c.1 ≡ true

cell_in : (greatest : ℤ) (s : ℕ × ℤ) (c : CellForm) → cell_fits greatest s c ≡ true → CellIn greatest s c
cell_in greatest s c h =
    let a = both_true (nat_lt 0 s.0) ((int_le s.1 c.0 && int_le c.0 greatest) && potential_fits c.1) h in
    let b = both_true (int_le s.1 c.0 && int_le c.0 greatest) (potential_fits c.1) a.1 in
    let d = both_true (int_le s.1 c.0) (int_le c.0 greatest) b.0 in
    let room : 0 < s.0 = grind (arith, nat_tests, a.0) in
    record { room = room; above = int_le_is s.1 c.0 d.0; below = int_le_is c.0 greatest d.1; potential = b.1 }

next_size : (z : ℤ) → pos 0 ≤ℤ z → unsigned_abs (z +ℤ pos 1) ≡ unsigned_abs z + 1
next_size z h = omega (arith, ints)

one_more : (greatest : ℤ) (s : ℕ × ℤ) (x : CellForm) (ys : List CertCell) → pos 0 ≤ℤ greatest → pos 0 ≤ℤ s.1 → CellIn greatest s x → CellsFit (unsigned_abs greatest) (cell_next s x) ys
    → CellsFit (unsigned_abs greatest) s (cell_made x ∷ ys)
one_more greatest s x ys from low i chain =
    let zero : pos 0 ≤ℤ x.0 = omega (arith, ints, low, i.above) in
    let above : unsigned_abs s.1 ≤ unsigned_abs x.0 = omega (arith, ints, low, i.above) in
    let below : unsigned_abs x.0 ≤ unsigned_abs greatest = omega (arith, ints, from, i.below, zero) in
    (omega (arith, chain.0, i.room), ((above, below, fits_modest x.1 i.potential), subst (λ (k : ℕ). RiseFrom k (unsigned_abs greatest) ys) (next_size x.0 zero) chain.1))

pub cells_take : (n room : ℕ) (greatest : ℤ) (fields : List (List ℕ)) (cs : List CertCell) → pos 0 ≤ℤ greatest → greatest ≤ℤ pos 12000
    → cells_read n greatest true (room, pos 0) fields ≡ Ok cs → (fields ≡ map cell_text cs) × CellsFit (unsigned_abs greatest) (room, pos 0) cs
cells_take n room greatest fields cs from to e =
    list_takes cell_form (cell_fits greatest) cell_next cell_made n cell_text (λ s. pos 0 ≤ℤ s.1) (CellsFit (unsigned_abs greatest)) (λ s _. (omega arith, tt))
    (λ s x ys g f chain. one_more greatest s x ys from g (cell_in greatest s x f) chain)
    (λ s x g f. let i = cell_in greatest s x f in omega (arith, ints, g, i.above))
    (λ s x f g h fit. let i = cell_in greatest s x fit in cell_of f x (cut 61 f) refl h (omega (arith, ints, g, i.above)) (omega (arith, ints, to, i.below)) i.potential)
    (room, pos 0) fields cs (omega (arith, ints)) e

pub cells_good : (n room : ℕ) (greatest : ℤ) (good : Bool) (fields : List (List ℕ)) (cs : List CertCell) → cells_read n greatest good (room, pos 0) fields ≡ Ok cs → good ≡ true
cells_good n room greatest good fields cs e = good_only cell_form (cell_fits greatest) cell_next cell_made n good (room, pos 0) fields cs e

cell_fits_so : (greatest : ℕ) (s : ℕ × ℤ) (c : CertCell) → pos 0 ≤ℤ s.1 → 0 < s.0 → unsigned_abs s.1 ≤ c.first → c.first ≤ greatest → IfSome c.potential IsModest
    → cell_fits (pos greatest) s (pos c.first, c.potential) ≡ true
cell_fits_so greatest s c low room above below h =
    rw (lt-ltb 0 s.0 room, is_int_le s.1 (pos c.first) (omega (arith, ints, low, above)), is_int_le (pos c.first) (pos greatest) (omega (arith, ints, below)), modest_fits c.potential h) refl

next_from : (n : ℕ) → (pos 0 ≤ℤ (pos n +ℤ pos 1)) × (unsigned_abs (pos n +ℤ pos 1) ≡ n + 1)
next_from n = (omega (arith, ints), omega (arith, ints))

pub cells_again : (n room greatest : ℕ) (cs : List CertCell) → greatest ≤ 12000 → CellsFit greatest (room, pos 0) cs → cells_read n (pos greatest) true (room, pos 0) (map cell_text cs) ≡ Ok cs
cells_again n room greatest cs few h =
    list_again cell_form (cell_fits (pos greatest)) cell_next cell_made n cell_text (λ s ys. (pos 0 ≤ℤ s.1) × CellsFit greatest s ys) (λ c. (pos c.first, c.potential))
    (λ s y ys g. let r = g.1.1.0 in let on = next_from y.first in (
      cell_again y (omega (arith, r.1, few)) r.2,
      cell_fits_so greatest s y g.0 (omega (arith, g.1.0)) r.0 r.1 r.2,
      refl,
      (on.0, (omega (arith, g.1.0), subst (λ (k : ℕ). RiseFrom k greatest ys) (sym on.1) g.1.1.1)),
    ))
    (room, pos 0) cs (omega (arith, ints), h)
