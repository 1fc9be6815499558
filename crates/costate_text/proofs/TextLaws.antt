-- Lines of numbers and whole texts, both ways.
use Rattle.std.proofs.Common.{◌≡◌, ◌<◌, ◌≤◌, ◌-◌, ◌∷◌, ◌++◌, ◌∙◌, ◌&&◌, ◌^◌, ℕ, ℤ, pos, negsuc, ◌≤ℤ◌, List, [], Bool, true, false, cond, Some, Result, Ok, Err, refl, sym, ap, subst, arith, length, map, codes, inl, eqb}
use Rattle.std.specs.Prelude.{nat_lt, IfOk}
use Rattle.std.specs.List.{AllByRecursion, All}
use Rattle.std.specs.Fmt.{signed_decimal}
use Rattle.std.specs.Int.RustNames.{unsigned_abs}
use Rattle.std.proofs.lemmas.Int.{ints}
use Rattle.std.proofs.lemmas.Bool.{lt-ltb, eqb-true}
use Rattle.std.proofs.lemmas.Bool.Decides.{nat_tests, Decides-eqb}
use Rattle.std.proofs.lemmas.List.{append-nil, nil_from_length, length-map}
use Rattle.std.proofs.lemmas.List.Elements.{All-from_recursion, recursion_from_All}
use Rattle.std.proofs.lemmas.List.Splits.{join_with_byte-slice_split}
use Rattle.rail_base.specs.Lines.{fields_of}
use Rattle.rail_base.specs.Numbers.{is_within}
use Rattle.rail_base.specs.Texts.{line}
use Rattle.dual_certificate.specs.declared.fault.CertFault.{CertFault}
use Rattle.dual_certificate.specs.declared.fault.CertFault.TheVariants.{Form}
use Rattle.dual_certificate.specs.Grammar.{◌>>=◌, Gives, ranged, line_at, behind, exact_at, number_at, prices_at}
use Rattle.dual_certificate.specs.Numbers.{number_spelled}
use Rattle.dual_certificate.specs.Text.{IsModest, fields_text, one_line, prices_line}
use Rattle.dual_certificate.proofs.FieldLists.{with_front, in_range, both_true}
use Rattle.dual_certificate.proofs.Numerals.{Lacks, lacks-append, signed_lacks, number_takes, number_again}
use Rattle.dual_certificate.proofs.Cuts.{bind_ok, ok_is, ranged_ok, line_takes, line_again, behind_takes, exact_takes, exact_again}
use Rattle.dual_certificate.proofs.ListLaws.{list_takes, list_again}
use Rattle.dual_certificate.proofs.LineLaws.{InRange, within_is, is_within_so, number_line_takes, number_line_again, fields_lack, fields_back, prices_line_takes, prices_line_again}
use Rattle.dual_certificate.proofs.WholeLaws.{guard_ended, size_is, modest_in, in_modest, count_in}
use Rattle.costate_text.specs.declared.certificate.CostateCertificate.{CostateCertificate}
use Rattle.costate_text.specs.Text.{IsCostateCertificate, numbers_line, text_of}
use Rattle.costate_text.specs.Grammar.{number_fits, room_next, as_it_is, numbers_read, numbers_at, lists_at, certificate_of}

-- ---- fields

-- a number that is kept
pub number_kept : (n : ℕ) (low high : ℤ) (good fit : Bool) (room : ℕ) (number value pushed : ℤ) (field : List ℕ) (rest fields : List (List ℕ)) (numbers more : List ℤ) (total : Result (List ℤ) CertFault)
    → fields ≡ field ∷ rest → Some number ≡ number_spelled field → value ≡ number → pushed ≡ number → fit ≡ number_fits low high room value → (good && fit) ≡ true → more ≡ numbers ++ pushed ∷ []
    → with_front numbers (numbers_read n low high good room fields) ≡ total → with_front more (numbers_read n low high (good && fit) (room - 1) rest) ≡ total
number_kept n low high good fit room number value pushed field rest fields numbers more total e f same cast g both m h =
    let b = both_true good fit both in
    let fits : number_fits low high room number ≡ true = ap (number_fits low high room) (sym same) ∙ sym g ∙ b.1 in
    let one = in_range number_spelled (number_fits low high) room_next as_it_is n numbers room field rest number (sym f) fits in
    let so_far : with_front numbers (numbers_read n low high true room (field ∷ rest)) ≡ total =
    subst (λ (x : Bool). with_front numbers (numbers_read n low high x room (field ∷ rest)) ≡ total) b.0
    (subst (λ (ys : List (List ℕ)). with_front numbers (numbers_read n low high good room ys) ≡ total) e h) in
    let list : more ≡ numbers ++ number ∷ [] = m ∙ ap (λ (z : ℤ). numbers ++ z ∷ []) cast in
    rw (both, list) (sym one ∙ so_far)

-- so many numbers in a range
abbrev NumbersFit : ℤ → ℤ → ℕ → List ℤ → Type 0
NumbersFit low high room zs = (length zs ≤ room) × AllByRecursion (InRange low high) zs

pub number_bounds : (low high : ℤ) (room : ℕ) (z : ℤ) → number_fits low high room z ≡ true → (0 < room) × InRange low high z
number_bounds low high room z h =
    let a = both_true (nat_lt 0 room) (is_within low high z) h in
    let some : 0 < room = grind (arith, nat_tests, a.0) in
    (some, within_is low high z a.1)

modest : (low high z : ℤ) → IsModest low → IsModest high → InRange low high z → unsigned_abs z ≤ 2 ^ 100
modest low high z l h i = omega (arith, ints, l, h, i.above, i.below)

numbers_take : (n : ℕ) (low high : ℤ) (count : ℕ) (fields : List (List ℕ)) (zs : List ℤ) → IsModest low → IsModest high → numbers_read n low high true count fields ≡ Ok zs
    → (fields ≡ map signed_decimal zs) × NumbersFit low high count zs
numbers_take n low high count fields zs l h e =
    list_takes number_spelled (number_fits low high) room_next as_it_is n signed_decimal (λ s. Unit {0}) (NumbersFit low high) (λ s _. (omega arith, tt))
    (λ s x ys _ f chain. let b = number_bounds low high s x f in (omega (arith, chain.0, b.0), (b.1, chain.1)))
    (λ s x _ f. tt)
    (λ s x f _ g fit. let b = number_bounds low high s x fit in number_takes f x g (modest low high x l h b.1))
    count fields zs tt e

number_fits_so : (low high : ℤ) (room : ℕ) (z : ℤ) → 0 < room → InRange low high z → number_fits low high room z ≡ true
number_fits_so low high room z some i = rw (lt-ltb 0 room some, is_within_so low high z i.above i.below) refl

numbers_again : (n : ℕ) (low high : ℤ) (count : ℕ) (zs : List ℤ) → IsModest low → IsModest high → NumbersFit low high count zs → numbers_read n low high true count (map signed_decimal zs) ≡ Ok zs
numbers_again n low high count zs l h fit =
    list_again number_spelled (number_fits low high) room_next as_it_is n signed_decimal (NumbersFit low high) (λ z. z)
    (λ s y ys g. (number_again y (modest low high y l h g.1.0), number_fits_so low high s y (omega (arith, g.0)) g.1.0, refl, (omega (arith, g.0), g.1.1)))
    count zs fit

-- ---- lines

pub numbers_line_takes : (n : ℕ) (word : List ℕ) (low high : ℤ) (count : ℕ) (text : List ℕ) (x : List ℤ × List ℕ) → IsModest low → IsModest high → numbers_at n word low high count text ≡ Ok x
    → (text ≡ numbers_line word x.0 ++ x.1) × AllByRecursion (InRange low high) x.0 × (length x.0 ≡ count)
unfolding numbers_at numbers_line
numbers_line_takes n word low high count text x l h e =
    let a = bind_ok (line_at n text) (λ l. behind n word l.0 >>= λ rest. numbers_read n low high true count (fields_of rest) >>= λ numbers. ranged n (eqb (length numbers) count) numbers >>= λ all. Ok (all, l.1)) x e in
    let b = bind_ok (behind n word a.0.0) (λ rest. numbers_read n low high true count (fields_of rest) >>= λ numbers. ranged n (eqb (length numbers) count) numbers >>= λ all. Ok (all, a.0.1)) x a.2 in
    let c = bind_ok (numbers_read n low high true count (fields_of b.0)) (λ numbers. ranged n (eqb (length numbers) count) numbers >>= λ all. Ok (all, a.0.1)) x b.2 in
    let d = bind_ok (ranged n (eqb (length c.0) count) c.0) (λ all. Ok (all, a.0.1)) x c.2 in
    let r = ranged_ok n (eqb (length c.0) count) c.0 d.0 d.1 in
    let p = numbers_take n low high count (fields_of b.0) c.0 l h c.1 in
    let joined : b.0 ≡ fields_text (map signed_decimal c.0) = sym (join_with_byte-slice_split 32 b.0) ∙ ap fields_text p.0 in
    let inside : a.0.0 ≡ word ++ fields_text (map signed_decimal c.0) = behind_takes n word a.0.0 b.0 b.1 ∙ ap (λ (t : List ℕ). word ++ t) joined in
    let whole : text ≡ line (word ++ fields_text (map signed_decimal c.0)) ++ a.0.1 = line_takes n text a.0 a.1 ∙ ap (λ (t : List ℕ). line t ++ a.0.1) inside in
    let is : (c.0, a.0.1) ≡ x = ap (λ (zs : List ℤ). (zs, a.0.1)) r.1 ∙ ok_is (d.0, a.0.1) x d.2 in
    subst (λ (y : List ℤ × List ℕ). (text ≡ line (word ++ fields_text (map signed_decimal y.0)) ++ y.1) × AllByRecursion (InRange low high) y.0 × (length y.0 ≡ count)) is
    (whole, p.1.1, eqb-true (length c.0) count r.0)

lack_each : (b : ℕ) (low high : ℤ) (zs : List ℤ) → b < 48 → eqb 45 b ≡ false → IsModest low → IsModest high → AllByRecursion (InRange low high) zs → AllByRecursion (λ z. Lacks b (signed_decimal z)) zs
lack_each b low high [] few e l h i = tt
lack_each b low high (z ∷ zs) few e l h i = (signed_lacks b z (omega (arith, modest low high z l h i.0)) (inl few) e, lack_each b low high zs few e l h i.1)

pub numbers_line_again : (n : ℕ) (word : List ℕ) (low high : ℤ) (zs : List ℤ) (rest : List ℕ) → Lacks 10 word → ((r : List ℕ) → behind n word (word ++ r) ≡ Ok r) → IsModest low → IsModest high
    → AllByRecursion (InRange low high) zs → 1 ≤ length zs → numbers_at n word low high (length zs) (numbers_line word zs ++ rest) ≡ Ok (zs, rest)
unfolding numbers_at numbers_line
numbers_line_again n word low high zs rest lacks word_is l h i some =
    let inside : Lacks 10 (word ++ fields_text (map signed_decimal zs)) =
    lacks-append 10 word (fields_text (map signed_decimal zs)) lacks (fields_lack 10 signed_decimal zs refl (lack_each 10 low high zs (omega arith) refl l h i)) in
    rw (
      line_again n (word ++ fields_text (map signed_decimal zs)) rest inside,
      word_is (fields_text (map signed_decimal zs)),
      fields_back signed_decimal zs some (lack_each 32 low high zs (omega arith) refl l h i),
      numbers_again n low high (length zs) zs l h (omega arith, i),
      (Decides-eqb (length zs) (length zs)).1 refl,
    ) refl

-- ---- both lists and the end

abbrev AreSpeeds : List ℤ → Type 0
AreSpeeds vs = AllByRecursion (InRange (pos 0) (pos 12000)) vs

abbrev AreCostates : List ℤ → Type 0
AreCostates zs = AllByRecursion (InRange (negsuc (2 ^ 22 - 1)) (pos (2 ^ 22))) zs

record ListsTake (count : ℕ) (text : List ℕ) (ls : List ℤ × List ℤ) : Type 0 where
  parts : text ≡ numbers_line (codes "speeds ") ls.0 ++ (numbers_line (codes "costates ") ls.1 ++ line (codes "end"))
  speeds : AreSpeeds ls.0
  many : length ls.0 ≡ count
  costates : AreCostates ls.1
  steps : length ls.1 ≡ count - 1

lists_take : (count : ℕ) (text : List ℕ) (ls : List ℤ × List ℤ) → lists_at count text ≡ Ok ls → ListsTake count text ls
unfolding lists_at
lists_take count text ls e =
    let a = bind_ok (numbers_at 6 (codes "speeds ") (pos 0) (pos 12000) count text) (λ speeds. numbers_at 7 (codes "costates ") (negsuc (2 ^ 22 - 1)) (pos (2 ^ 22)) (count - 1) speeds.1 >>= λ costates. exact_at 8 (codes "end") costates.1 >>= λ nothing. cond (eqb (length nothing) 0) (Ok (speeds.0, costates.0)) (Err (Form 9))) ls e in
    let b = bind_ok (numbers_at 7 (codes "costates ") (negsuc (2 ^ 22 - 1)) (pos (2 ^ 22)) (count - 1) a.0.1) (λ costates. exact_at 8 (codes "end") costates.1 >>= λ nothing. cond (eqb (length nothing) 0) (Ok (a.0.0, costates.0)) (Err (Form 9))) ls a.2 in
    let d = bind_ok (exact_at 8 (codes "end") b.0.1) (λ nothing. cond (eqb (length nothing) 0) (Ok (a.0.0, b.0.0)) (Err (Form 9))) ls b.2 in
    let g = guard_ended (eqb (length d.0) 0) (Form 9) (a.0.0, b.0.0) ls d.2 in
    let s = numbers_line_takes 6 (codes "speeds ") (pos 0) (pos 12000) count text a.0 (omega arith) (omega arith) a.1 in
    let t = numbers_line_takes 7 (codes "costates ") (negsuc (2 ^ 22 - 1)) (pos (2 ^ 22)) (count - 1) a.0.1 b.0 (omega arith) (omega arith) b.1 in
    let nothing : d.0 ≡ [] = nil_from_length d.0 (eqb-true (length d.0) 0 g.0) in
    let end : b.0.1 ≡ line (codes "end") = exact_takes 8 (codes "end") b.0.1 d.0 d.1 ∙ (ap (λ (x : List ℕ). line (codes "end") ++ x) nothing ∙ append-nil (line (codes "end"))) in
    let behind_speeds : a.0.1 ≡ numbers_line (codes "costates ") b.0.0 ++ line (codes "end") = t.0 ∙ ap (λ (x : List ℕ). numbers_line (codes "costates ") b.0.0 ++ x) end in
    subst (ListsTake count text) g.1
    (record { parts = s.0 ∙ ap (λ (x : List ℕ). numbers_line (codes "speeds ") a.0.0 ++ x) behind_speeds; speeds = s.1; many = s.2; costates = t.1; steps = t.2 })

lists_again : (count : ℕ) (vs zs : List ℤ) → AreSpeeds vs → AreCostates zs → length vs ≡ count → length zs ≡ count - 1 → 2 ≤ count
    → lists_at count (numbers_line (codes "speeds ") vs ++ (numbers_line (codes "costates ") zs ++ line (codes "end"))) ≡ Ok (vs, zs)
unfolding lists_at
lists_again count vs zs hv hz many steps some =
    let end : exact_at 8 (codes "end") (line (codes "end")) ≡ Ok [] = ap (exact_at 8 (codes "end")) (sym (append-nil (line (codes "end")))) ∙ exact_again 8 (codes "end") [] (refl, (refl, (refl, tt))) in
    let first = subst (λ (n : ℕ). numbers_at 6 (codes "speeds ") (pos 0) (pos 12000) n (numbers_line (codes "speeds ") vs ++ (numbers_line (codes "costates ") zs ++ line (codes "end"))) ≡ Ok (vs, numbers_line (codes "costates ") zs ++ line (codes "end"))) many
    (numbers_line_again 6 (codes "speeds ") (pos 0) (pos 12000) vs (numbers_line (codes "costates ") zs ++ line (codes "end")) (refl, (refl, (refl, (refl, (refl, (refl, (refl, tt))))))) (λ r. refl) (omega arith) (omega arith) hv (omega (arith, many, some))) in
    let second = subst (λ (n : ℕ). numbers_at 7 (codes "costates ") (negsuc (2 ^ 22 - 1)) (pos (2 ^ 22)) n (numbers_line (codes "costates ") zs ++ line (codes "end")) ≡ Ok (zs, line (codes "end"))) steps
    (numbers_line_again 7 (codes "costates ") (negsuc (2 ^ 22 - 1)) (pos (2 ^ 22)) zs (line (codes "end")) (refl, (refl, (refl, (refl, (refl, (refl, (refl, (refl, (refl, tt))))))))) (λ r. refl) (omega arith) (omega arith) hz (omega (arith, steps, some))) in
    rw (first, second, end) refl

-- ---- speeds as naturals

as_integers : (vs : List ℤ) → AreSpeeds vs → map pos (map unsigned_abs vs) ≡ vs
as_integers [] h = refl
as_integers (pos v ∷ vs) h = ap (λ (xs : List ℤ). pos v ∷ xs) (as_integers vs h.1)
as_integers (negsuc v ∷ vs) h = absurd (omega (arith, ints, h.0.above))

as_naturals : (vs : List ℕ) → map unsigned_abs (map pos vs) ≡ vs
as_naturals [] = refl
as_naturals (v ∷ vs) = ap (λ (xs : List ℕ). v ∷ xs) (as_naturals vs)

are_speeds : (vs : List ℕ) → AllByRecursion (λ v. v ≤ 12000) vs → AreSpeeds (map pos vs)
are_speeds [] h = tt
are_speeds (v ∷ vs) h = (record { above = omega (arith, ints); below = omega (arith, ints, h.0) }, are_speeds vs h.1)

low_speeds : (vs : List ℤ) → AreSpeeds vs → AllByRecursion (λ v. v ≤ 12000) (map unsigned_abs vs)
low_speeds [] h = tt
low_speeds (v ∷ vs) h = (omega (arith, ints, h.0.above, h.0.below), low_speeds vs h.1)

are_costates : (zs : List ℤ) → AllByRecursion (λ s. unsigned_abs s ≤ 2 ^ 22) zs → AreCostates zs
are_costates [] h = tt
are_costates (z ∷ zs) h = (record { above = omega (arith, ints, h.0); below = omega (arith, ints, h.0) }, are_costates zs h.1)

small_costates : (zs : List ℤ) → AreCostates zs → AllByRecursion (λ s. unsigned_abs s ≤ 2 ^ 22) zs
small_costates [] h = tt
small_costates (z ∷ zs) h = (omega (arith, ints, h.0.above, h.0.below), small_costates zs h.1)

-- ---- the whole text

-- the parts of a text together
whole_text : (text r0 r1 r2 r3 r4 : List ℕ) (c : CostateCertificate) → text ≡ line (codes "costate 1") ++ r0 → r0 ≡ one_line (codes "points ") (pos (length c.speeds)) ++ r1
    → r1 ≡ one_line (codes "energy ") c.energy ++ r2 → r2 ≡ one_line (codes "bound ") c.bound ++ r3 → r3 ≡ prices_line c.prices ++ r4
    → r4 ≡ numbers_line (codes "speeds ") (map pos c.speeds) ++ (numbers_line (codes "costates ") c.costates ++ line (codes "end")) → text ≡ text_of c
unfolding text_of
whole_text text r0 r1 r2 r3 r4 c e0 e1 e2 e3 e4 e5 = rw (e0, e1, e2, e3, e4, e5) refl

certificate_takes : (text : List ℕ) (c : CostateCertificate) → certificate_of text ≡ Ok c → IsCostateCertificate c × (text ≡ text_of c)
unfolding certificate_of
certificate_takes text c e =
    let t = bind_ok (exact_at 1 (codes "costate 1") text) (λ rest. number_at 2 (codes "points ") (pos 2) (pos 4001) rest >>= λ count. number_at 3 (codes "energy ") (negsuc (2 ^ 100 - 1)) (pos (2 ^ 100)) count.1 >>= λ energy. number_at 4 (codes "bound ") (negsuc (2 ^ 100 - 1)) (pos (2 ^ 100)) energy.1 >>= λ bound. prices_at bound.1 >>= λ prices. lists_at (unsigned_abs count.0) prices.1 >>= λ lists. Ok (record { energy = energy.0; bound = bound.0; prices = prices.0; speeds = map unsigned_abs lists.0; costates = lists.1 })) c e in
    let n = bind_ok (number_at 2 (codes "points ") (pos 2) (pos 4001) t.0) (λ count. number_at 3 (codes "energy ") (negsuc (2 ^ 100 - 1)) (pos (2 ^ 100)) count.1 >>= λ energy. number_at 4 (codes "bound ") (negsuc (2 ^ 100 - 1)) (pos (2 ^ 100)) energy.1 >>= λ bound. prices_at bound.1 >>= λ prices. lists_at (unsigned_abs count.0) prices.1 >>= λ lists. Ok (record { energy = energy.0; bound = bound.0; prices = prices.0; speeds = map unsigned_abs lists.0; costates = lists.1 })) c t.2 in
    let g = bind_ok (number_at 3 (codes "energy ") (negsuc (2 ^ 100 - 1)) (pos (2 ^ 100)) n.0.1) (λ energy. number_at 4 (codes "bound ") (negsuc (2 ^ 100 - 1)) (pos (2 ^ 100)) energy.1 >>= λ bound. prices_at bound.1 >>= λ prices. lists_at (unsigned_abs n.0.0) prices.1 >>= λ lists. Ok (record { energy = energy.0; bound = bound.0; prices = prices.0; speeds = map unsigned_abs lists.0; costates = lists.1 })) c n.2 in
    let b = bind_ok (number_at 4 (codes "bound ") (negsuc (2 ^ 100 - 1)) (pos (2 ^ 100)) g.0.1) (λ bound. prices_at bound.1 >>= λ prices. lists_at (unsigned_abs n.0.0) prices.1 >>= λ lists. Ok (record { energy = g.0.0; bound = bound.0; prices = prices.0; speeds = map unsigned_abs lists.0; costates = lists.1 })) c g.2 in
    let p = bind_ok (prices_at b.0.1) (λ prices. lists_at (unsigned_abs n.0.0) prices.1 >>= λ lists. Ok (record { energy = g.0.0; bound = b.0.0; prices = prices.0; speeds = map unsigned_abs lists.0; costates = lists.1 })) c b.2 in
    let q = bind_ok (lists_at (unsigned_abs n.0.0) p.0.1) (λ lists. Ok (record { energy = g.0.0; bound = b.0.0; prices = p.0.0; speeds = map unsigned_abs lists.0; costates = lists.1 })) c p.2 in
    let made : CostateCertificate = record { energy = g.0.0; bound = b.0.0; prices = p.0.0; speeds = map unsigned_abs q.0.0; costates = q.0.1 } in
    let tt0 = exact_takes 1 (codes "costate 1") text t.0 t.1 in
    let nt = number_line_takes 2 (codes "points ") (pos 2) (pos 4001) t.0 n.0 (omega arith) (omega arith) n.1 in
    let gt = number_line_takes 3 (codes "energy ") (negsuc (2 ^ 100 - 1)) (pos (2 ^ 100)) n.0.1 g.0 (omega arith) (omega arith) g.1 in
    let bt = number_line_takes 4 (codes "bound ") (negsuc (2 ^ 100 - 1)) (pos (2 ^ 100)) g.0.1 b.0 (omega arith) (omega arith) b.1 in
    let pt = prices_line_takes b.0.1 p.0 p.1 in
    let qt = lists_take (unsigned_abs n.0.0) p.0.1 q.0 q.1 in
    let long : length (map unsigned_abs q.0.0) ≡ unsigned_abs n.0.0 = length-map q.0.0 unsigned_abs ∙ qt.many in
    let points = count_in n.0.0 (length (map unsigned_abs q.0.0)) nt.1 long in
    let count : n.0.0 ≡ pos (length (map unsigned_abs q.0.0)) = size_is n.0.0 (length (map unsigned_abs q.0.0)) nt.1.above long in
    let parts : p.0.1 ≡ numbers_line (codes "speeds ") (map pos (map unsigned_abs q.0.0)) ++ (numbers_line (codes "costates ") q.0.1 ++ line (codes "end")) =
    qt.parts ∙ ap (λ (vs : List ℤ). numbers_line (codes "speeds ") vs ++ (numbers_line (codes "costates ") q.0.1 ++ line (codes "end"))) (sym (as_integers q.0.0 qt.speeds)) in
    let known : IsCostateCertificate made = record {
      energy = modest_in g.0.0 gt.1;
      bound = modest_in b.0.0 bt.1;
      prices = (pt.2, pt.1.0);
      price = All-from_recursion (λ v. v ≤ 2 ^ 50) p.0.0 pt.1.1;
      points = points;
      speed = All-from_recursion (λ v. v ≤ 12000) (map unsigned_abs q.0.0) (low_speeds q.0.0 qt.speeds);
      steps = omega (arith, qt.steps, long, points.0);
      costate = All-from_recursion (λ s. unsigned_abs s ≤ 2 ^ 22) q.0.1 (small_costates q.0.1 qt.costates);
    } in
    subst (λ (d : CostateCertificate). IsCostateCertificate d × (text ≡ text_of d)) (ok_is made c q.2)
    (known, whole_text text t.0 n.0.1 g.0.1 b.0.1 p.0.1 made tt0 (nt.0 ∙ ap (λ (z : ℤ). one_line (codes "points ") z ++ n.0.1) count) gt.0 bt.0 pt.0 parts)

certificate_again : (c : CostateCertificate) → IsCostateCertificate c → certificate_of (text_of c) ≡ Ok c
unfolding certificate_of text_of
certificate_again c h =
    let lists : List ℕ = numbers_line (codes "speeds ") (map pos c.speeds) ++ (numbers_line (codes "costates ") c.costates ++ line (codes "end")) in
    let prices : List ℕ = prices_line c.prices ++ lists in
    let bound : List ℕ = one_line (codes "bound ") c.bound ++ prices in
    let energy : List ℕ = one_line (codes "energy ") c.energy ++ bound in
    let energies = in_modest c.energy h.energy in
    let bounds = in_modest c.bound h.bound in
    rw (
      exact_again 1 (codes "costate 1") (one_line (codes "points ") (pos (length c.speeds)) ++ energy) (refl, (refl, (refl, (refl, (refl, (refl, (refl, (refl, (refl, tt))))))))),
      number_line_again 2 (codes "points ") (pos 2) (pos 4001) (pos (length c.speeds)) energy (refl, (refl, (refl, (refl, (refl, (refl, (refl, tt))))))) (λ r. refl) (omega (arith, h.points)) (omega (arith, ints, h.points)) (omega (arith, ints, h.points)),
      number_line_again 3 (codes "energy ") (negsuc (2 ^ 100 - 1)) (pos (2 ^ 100)) c.energy bound (refl, (refl, (refl, (refl, (refl, (refl, (refl, tt))))))) (λ r. refl) h.energy energies.0 energies.1,
      number_line_again 4 (codes "bound ") (negsuc (2 ^ 100 - 1)) (pos (2 ^ 100)) c.bound prices (refl, (refl, (refl, (refl, (refl, (refl, tt)))))) (λ r. refl) h.bound bounds.0 bounds.1,
      prices_line_again c.prices lists (h.prices.1, recursion_from_All (λ v. v ≤ 2 ^ 50) c.prices h.price) h.prices.0,
      lists_again (length c.speeds) (map pos c.speeds) c.costates (are_speeds c.speeds (recursion_from_All (λ v. v ≤ 12000) c.speeds h.speed)) (are_costates c.costates (recursion_from_All (λ s. unsigned_abs s ≤ 2 ^ 22) c.costates h.costate))
          (length-map c.speeds pos) (omega (arith, h.steps)) h.points.0,
      as_naturals c.speeds,
    ) refl

-- ---- what `read` says

pub is_found : (text : List ℕ) (r : Result CostateCertificate CertFault) → Gives (λ c. c) r (certificate_of text) → IfOk r (λ c. IsCostateCertificate c × (text ≡ text_of c))
is_found text (Ok c) given = certificate_takes text c given
is_found text (Err e) given = tt

pub is_again : (c : CostateCertificate) → IsCostateCertificate c → certificate_of (text_of c) ≡ Ok c
is_again c h = certificate_again c h

pairs : (vs : List ℤ) → AreSpeeds vs → AllByRecursion (λ z. (pos 0 ≤ℤ z) × (z ≤ℤ pos 12000)) vs
pairs [] h = tt
pairs (v ∷ vs) h = ((h.0.above, h.0.below), pairs vs h.1)

-- the numbers of a line of speeds, once it is read
pub speeds_in_range : (count : ℕ) (text : List ℕ) (ls : List ℤ × List ℤ) → lists_at count text ≡ Ok ls → All (λ z. (pos 0 ≤ℤ z) × (z ≤ℤ pos 12000)) ls.0
speeds_in_range count text ls e = All-from_recursion (λ z. (pos 0 ≤ℤ z) × (z ≤ℤ pos 12000)) ls.0 (pairs ls.0 (lists_take count text ls e).speeds)
