-- Whole texts, both ways.
use Rattle.std.proofs.Common.{◌≡◌, ◌≤◌, ◌+◌, ◌*◌, ◌-◌, ◌∷◌, ◌++◌, ◌∙◌, ℕ, suc, ℤ, pos, negsuc, ◌≤ℤ◌, List, [], Bool, true, false, cond, Option, Some, None, Result, Ok, Err, refl, sym, ap, subst, arith, length, map, codes, ◌^◌, eqb, ltb, length-append}
use Rattle.std.specs.Prelude.{IfOk, IfSome}
use Rattle.std.specs.List.{AllByRecursion, flat_map}
use Rattle.std.specs.Fmt.{decimal, signed_decimal}
use Rattle.std.specs.Int.RustNames.{unsigned_abs}
use Rattle.std.proofs.lemmas.Int.{ints}
use Rattle.std.proofs.lemmas.Bool.{eqb-true, le-ltb}
use Rattle.std.proofs.lemmas.Fmt.{length-decimal-le_wide}
use Rattle.std.proofs.lemmas.List.{append-nil, nil_from_length}
use Rattle.std.proofs.lemmas.List.Elements.{All-from_recursion, recursion_from_All}
use Rattle.std.proofs.lemmas.List.Concat.{flat_map-cons}
use Rattle.std.proofs.lemmas.List.Sums.{sum_by-cons}
use Rattle.rail_base.specs.Texts.{line}
use Rattle.dual_certificate.specs.declared.certificate.CertCell.{CertCell}
use Rattle.dual_certificate.specs.declared.certificate.CertPoint.{CertPoint}
use Rattle.dual_certificate.specs.declared.certificate.Certificate.{Certificate}
use Rattle.dual_certificate.specs.declared.fault.CertFault.{CertFault}
use Rattle.dual_certificate.specs.declared.fault.CertFault.TheVariants.{TooLong, Form}
use Rattle.dual_certificate.specs.Grammar.{◌>>=◌, Gives, exact_at, number_at, prices_at, points_at, body_at, certificate_of, certificate_in}
use Rattle.dual_certificate.specs.Text.{IsModest, RiseFrom, IsPoint, IsCertificate, cells_in, cell_text, potential_text, fields_text, one_line, prices_line, point_line, text_of}
use Rattle.dual_certificate.proofs.Cuts.{bind_ok, ok_is, exact_takes, exact_again}
use Rattle.dual_certificate.proofs.LineLaws.{InRange, number_line_takes, number_line_again, prices_line_takes, prices_line_again}
use Rattle.dual_certificate.proofs.PointLaws.{points_take, points_again}

pub guard_ended : {A : Type 0} (b : Bool) (d : CertFault) (x y : A) → cond {A = Result A CertFault} b (Ok x) (Err d) ≡ Ok y → (b ≡ true) × (x ≡ y)
guard_ended true d x y e = (refl, ok_is x y e)
guard_ended false d x y e = absurd (cc e)

-- points and the end
record BodyTakes (count : ℕ) (text : List ℕ) (ps : List CertPoint) : Type 0 where
  parts : text ≡ flat_map point_line ps ++ line (codes "end")
  many : length ps ≡ count
  each : AllByRecursion IsPoint ps
  cells : cells_in ps ≤ 54001

body_takes : (count : ℕ) (text : List ℕ) (ps : List CertPoint) → body_at count text ≡ Ok ps → BodyTakes count text ps
unfolding body_at
body_takes count text ps e =
    let a = bind_ok (points_at count 6 54001 text) (λ points. exact_at (6 + count) (codes "end") points.1 >>= λ nothing. cond (eqb (length nothing) 0) (Ok points.0) (Err (Form (7 + count)))) ps e in
    let b = bind_ok (exact_at (6 + count) (codes "end") a.0.1) (λ nothing. cond (eqb (length nothing) 0) (Ok a.0.0) (Err (Form (7 + count)))) ps a.2 in
    let g = guard_ended (eqb (length b.0) 0) (Form (7 + count)) a.0.0 ps b.2 in
    let t = points_take count 6 54001 text a.0 a.1 in
    let nothing : b.0 ≡ [] = nil_from_length b.0 (eqb-true (length b.0) 0 g.0) in
    let end : a.0.1 ≡ line (codes "end") = exact_takes (6 + count) (codes "end") a.0.1 b.0 b.1 ∙ (ap (λ (x : List ℕ). line (codes "end") ++ x) nothing ∙ append-nil (line (codes "end"))) in
    subst (BodyTakes count text) g.1 (record { parts = t.parts ∙ ap (λ (x : List ℕ). flat_map point_line a.0.0 ++ x) end; many = t.many; each = t.each; cells = t.cells })

body_again : (ps : List CertPoint) → AllByRecursion IsPoint ps → cells_in ps ≤ 54001 → body_at (length ps) (flat_map point_line ps ++ line (codes "end")) ≡ Ok ps
unfolding body_at
body_again ps h few =
    let end : exact_at (6 + length ps) (codes "end") (line (codes "end")) ≡ Ok [] =
    ap (exact_at (6 + length ps) (codes "end")) (sym (append-nil (line (codes "end")))) ∙ exact_again (6 + length ps) (codes "end") [] (refl, (refl, (refl, tt))) in
    rw (points_again ps 6 54001 (line (codes "end")) h few, end) refl

-- the parts of a text together
whole_text : (text r0 r1 r2 r3 r4 : List ℕ) (c : Certificate) → text ≡ line (codes "certificate 1") ++ r0 → r0 ≡ one_line (codes "points ") (pos (length c.points)) ++ r1
    → r1 ≡ one_line (codes "energy ") c.energy ++ r2 → r2 ≡ one_line (codes "bound ") c.bound ++ r3 → r3 ≡ prices_line c.prices ++ r4
    → r4 ≡ flat_map point_line c.points ++ line (codes "end") → text ≡ text_of c
unfolding text_of
whole_text text r0 r1 r2 r3 r4 c e0 e1 e2 e3 e4 e5 = rw (e0, e1, e2, e3, e4, e5) refl

pub size_is : (z : ℤ) (n : ℕ) → pos 2 ≤ℤ z → n ≡ unsigned_abs z → z ≡ pos n
size_is z n h e = omega (arith, ints)

pub modest_in : (z : ℤ) → InRange (negsuc (2 ^ 100 - 1)) (pos (2 ^ 100)) z → IsModest z
modest_in z i = omega (arith, ints, i.above, i.below)

pub in_modest : (z : ℤ) → IsModest z → (negsuc (2 ^ 100 - 1) ≤ℤ z) × (z ≤ℤ pos (2 ^ 100))
in_modest z h = (omega (arith, ints, h), omega (arith, ints, h))

pub count_in : (z : ℤ) (n : ℕ) → InRange (pos 2) (pos 4001) z → n ≡ unsigned_abs z → (2 ≤ n) × (n ≤ 4001)
count_in z n i e = (omega (arith, ints, i.above, i.below), omega (arith, ints, i.above, i.below))

certificate_takes : (text : List ℕ) (c : Certificate) → certificate_of text ≡ Ok c → IsCertificate c × (text ≡ text_of c)
unfolding certificate_of
certificate_takes text c e =
    let t = bind_ok (exact_at 1 (codes "certificate 1") text) (λ rest. number_at 2 (codes "points ") (pos 2) (pos 4001) rest >>= λ count. number_at 3 (codes "energy ") (negsuc (2 ^ 100 - 1)) (pos (2 ^ 100)) count.1 >>= λ energy. number_at 4 (codes "bound ") (negsuc (2 ^ 100 - 1)) (pos (2 ^ 100)) energy.1 >>= λ bound. prices_at bound.1 >>= λ prices. body_at (unsigned_abs count.0) prices.1 >>= λ points. Ok (record { energy = energy.0; bound = bound.0; prices = prices.0; points = points })) c e in
    let n = bind_ok (number_at 2 (codes "points ") (pos 2) (pos 4001) t.0) (λ count. number_at 3 (codes "energy ") (negsuc (2 ^ 100 - 1)) (pos (2 ^ 100)) count.1 >>= λ energy. number_at 4 (codes "bound ") (negsuc (2 ^ 100 - 1)) (pos (2 ^ 100)) energy.1 >>= λ bound. prices_at bound.1 >>= λ prices. body_at (unsigned_abs count.0) prices.1 >>= λ points. Ok (record { energy = energy.0; bound = bound.0; prices = prices.0; points = points })) c t.2 in
    let g = bind_ok (number_at 3 (codes "energy ") (negsuc (2 ^ 100 - 1)) (pos (2 ^ 100)) n.0.1) (λ energy. number_at 4 (codes "bound ") (negsuc (2 ^ 100 - 1)) (pos (2 ^ 100)) energy.1 >>= λ bound. prices_at bound.1 >>= λ prices. body_at (unsigned_abs n.0.0) prices.1 >>= λ points. Ok (record { energy = energy.0; bound = bound.0; prices = prices.0; points = points })) c n.2 in
    let b = bind_ok (number_at 4 (codes "bound ") (negsuc (2 ^ 100 - 1)) (pos (2 ^ 100)) g.0.1) (λ bound. prices_at bound.1 >>= λ prices. body_at (unsigned_abs n.0.0) prices.1 >>= λ points. Ok (record { energy = g.0.0; bound = bound.0; prices = prices.0; points = points })) c g.2 in
    let p = bind_ok (prices_at b.0.1) (λ prices. body_at (unsigned_abs n.0.0) prices.1 >>= λ points. Ok (record { energy = g.0.0; bound = b.0.0; prices = prices.0; points = points })) c b.2 in
    let q = bind_ok (body_at (unsigned_abs n.0.0) p.0.1) (λ points. Ok (record { energy = g.0.0; bound = b.0.0; prices = p.0.0; points = points })) c p.2 in
    let made : Certificate = record { energy = g.0.0; bound = b.0.0; prices = p.0.0; points = q.0 } in
    let tt0 = exact_takes 1 (codes "certificate 1") text t.0 t.1 in
    let nt = number_line_takes 2 (codes "points ") (pos 2) (pos 4001) t.0 n.0 (omega arith) (omega arith) n.1 in
    let gt = number_line_takes 3 (codes "energy ") (negsuc (2 ^ 100 - 1)) (pos (2 ^ 100)) n.0.1 g.0 (omega arith) (omega arith) g.1 in
    let bt = number_line_takes 4 (codes "bound ") (negsuc (2 ^ 100 - 1)) (pos (2 ^ 100)) g.0.1 b.0 (omega arith) (omega arith) b.1 in
    let pt = prices_line_takes b.0.1 p.0 p.1 in
    let qt = body_takes (unsigned_abs n.0.0) p.0.1 q.0 q.1 in
    let count : n.0.0 ≡ pos (length q.0) = size_is n.0.0 (length q.0) nt.1.above qt.many in
    let known : IsCertificate made = record {
      energy = modest_in g.0.0 gt.1;
      bound = modest_in b.0.0 bt.1;
      prices = (pt.2, pt.1.0);
      price = All-from_recursion (λ v. v ≤ 2 ^ 50) p.0.0 pt.1.1;
      points = count_in n.0.0 (length q.0) nt.1 qt.many;
      point = All-from_recursion IsPoint q.0 qt.each;
      cells = qt.cells;
    } in
    subst (λ (d : Certificate). IsCertificate d × (text ≡ text_of d)) (ok_is made c q.2)
    (known, whole_text text t.0 n.0.1 g.0.1 b.0.1 p.0.1 made tt0 (nt.0 ∙ ap (λ (z : ℤ). one_line (codes "points ") z ++ n.0.1) count) gt.0 bt.0 pt.0 qt.parts)

certificate_again : (c : Certificate) → IsCertificate c → certificate_of (text_of c) ≡ Ok c
unfolding certificate_of text_of
certificate_again c h =
    let body : List ℕ = flat_map point_line c.points ++ line (codes "end") in
    let prices : List ℕ = prices_line c.prices ++ body in
    let bound : List ℕ = one_line (codes "bound ") c.bound ++ prices in
    let energy : List ℕ = one_line (codes "energy ") c.energy ++ bound in
    let energies = in_modest c.energy h.energy in
    let bounds = in_modest c.bound h.bound in
    rw (
      exact_again 1 (codes "certificate 1") (one_line (codes "points ") (pos (length c.points)) ++ energy) (refl, (refl, (refl, (refl, (refl, (refl, (refl, (refl, (refl, (refl, (refl, (refl, (refl, tt))))))))))))),
      number_line_again 2 (codes "points ") (pos 2) (pos 4001) (pos (length c.points)) energy (refl, (refl, (refl, (refl, (refl, (refl, (refl, tt))))))) (λ r. refl) (omega (arith, h.points)) (omega (arith, ints, h.points)) (omega (arith, ints, h.points)),
      number_line_again 3 (codes "energy ") (negsuc (2 ^ 100 - 1)) (pos (2 ^ 100)) c.energy bound (refl, (refl, (refl, (refl, (refl, (refl, (refl, tt))))))) (λ r. refl) h.energy energies.0 energies.1,
      number_line_again 4 (codes "bound ") (negsuc (2 ^ 100 - 1)) (pos (2 ^ 100)) c.bound prices (refl, (refl, (refl, (refl, (refl, (refl, tt)))))) (λ r. refl) h.bound bounds.0 bounds.1,
      prices_line_again c.prices body (h.prices.1, recursion_from_All (λ v. v ≤ 2 ^ 50) c.prices h.price) h.prices.0,
      body_again c.points (recursion_from_All IsPoint c.points h.point) h.cells,
    ) refl

-- ---- how long a text is

signed_short : (z : ℤ) → IsModest z → length (signed_decimal z) ≤ 32
signed_short (pos n) h = omega (arith, length-decimal-le_wide 31 n (omega arith) (omega (arith, h)) (omega (arith, h)))
signed_short (negsuc n) h = omega (arith, length-decimal-le_wide 31 (suc n) (omega arith) (omega (arith, h)) (omega (arith, h)))

speed_short : (v : ℕ) → v ≤ 12000 → length (decimal v) ≤ 5
speed_short v h = length-decimal-le_wide 5 v (omega arith) (omega (arith, h)) (omega (arith, h))

fields_short : {B : Type 0} (f : B → List ℕ) (m : ℕ) (ys : List B) → AllByRecursion (λ y. length (f y) + 1 ≤ m) ys → length (fields_text (map f ys)) ≤ m * length ys
fields_short f m [] h = omega arith
fields_short f m (y ∷ []) h = omega (arith, h.0)
fields_short f m (y ∷ z ∷ ys) h = omega (arith, h.0, fields_short f m (z ∷ ys) h.1, length-append (f y) (32 ∷ fields_text (map f (z ∷ ys))))

potential_short : (q : Option ℤ) → IfSome q IsModest → length (potential_text q) ≤ 32
potential_short None h = omega arith
potential_short (Some z) h = signed_short z h

cells_short : (low greatest : ℕ) (cs : List CertCell) → greatest ≤ 12000 → RiseFrom low greatest cs → AllByRecursion (λ c. length (cell_text c) + 1 ≤ 39) cs
cells_short low greatest [] few h = tt
cells_short low greatest (c ∷ cs) few h = (
  omega (arith, speed_short c.first (omega (arith, h.0.1, few)), potential_short c.potential h.0.2, length-append (decimal c.first) (61 ∷ potential_text c.potential)),
  cells_short (c.first + 1) greatest cs few h.1,
)

line_length : (l : List ℕ) → length (line l) ≡ length l + 1
line_length l = length-append l (10 ∷ [])

point_short : (p : CertPoint) → IsPoint p → length (point_line p) ≤ 19 + 39 * length p.cells
unfolding point_line
point_short p h =
    let cells = fields_short cell_text 39 p.cells (cells_short 0 p.greatest p.cells h.greatest h.cells) in
    let great : List ℕ = decimal p.greatest ++ 32 ∷ fields_text (map cell_text p.cells) in
    omega (
      arith,
      cells,
      speed_short p.speed h.speed,
      speed_short p.greatest h.greatest,
      line_length (codes "point " ++ (decimal p.speed ++ 32 ∷ great)),
      length-append (codes "point ") (decimal p.speed ++ 32 ∷ great),
      length-append (decimal p.speed) (32 ∷ great),
      length-append (decimal p.greatest) (32 ∷ fields_text (map cell_text p.cells)),
    )

points_short : (ps : List CertPoint) → AllByRecursion IsPoint ps → length (flat_map point_line ps) ≤ 19 * length ps + 39 * cells_in ps
points_short [] h = omega arith
points_short (p ∷ ps) h =
    omega (arith, point_short p h.0, points_short ps h.1, ap length (flat_map-cons point_line p ps), length-append (point_line p) (flat_map point_line ps), sum_by-cons (λ (q : CertPoint). length q.cells) p ps)

prices_each : (ps : List ℕ) → AllByRecursion (λ v. v ≤ 2 ^ 50) ps → AllByRecursion (λ v. length (decimal v) + 1 ≤ 17) ps
prices_each [] h = tt
prices_each (p ∷ ps) h = (omega (arith, length-decimal-le_wide 16 p (omega arith) (omega (arith, h.0)) (omega (arith, h.0))), prices_each ps h.1)

prices_short : (ps : List ℕ) → AllByRecursion (λ v. v ≤ 2 ^ 50) ps → length (prices_line ps) ≤ 8 + 17 * length ps
unfolding prices_line
prices_short ps h = omega (arith, fields_short decimal 17 ps (prices_each ps h), line_length (codes "prices " ++ fields_text (map decimal ps)), length-append (codes "prices ") (fields_text (map decimal ps)))

one_short : (word : List ℕ) (z : ℤ) → length word ≤ 7 → IsModest z → length (one_line word z) ≤ 40
unfolding one_line
one_short word z few h = omega (arith, signed_short z h, line_length (word ++ signed_decimal z), length-append word (signed_decimal z))

text_short : (c : Certificate) → IsCertificate c → length (text_of c) ≤ 8388608
unfolding text_of
text_short c h =
    let body : List ℕ = flat_map point_line c.points ++ line (codes "end") in
    let prices : List ℕ = prices_line c.prices ++ body in
    let bound : List ℕ = one_line (codes "bound ") c.bound ++ prices in
    let energy : List ℕ = one_line (codes "energy ") c.energy ++ bound in
    let points : List ℕ = one_line (codes "points ") (pos (length c.points)) ++ energy in
    omega (
      arith,
      length-append (line (codes "certificate 1")) points,
      length-append (one_line (codes "points ") (pos (length c.points))) energy,
      length-append (one_line (codes "energy ") c.energy) bound,
      length-append (one_line (codes "bound ") c.bound) prices,
      length-append (prices_line c.prices) body,
      length-append (flat_map point_line c.points) (line (codes "end")),
      one_short (codes "points ") (pos (length c.points)) (omega arith) (omega (arith, h.points)),
      one_short (codes "energy ") c.energy (omega arith) h.energy,
      one_short (codes "bound ") c.bound (omega arith) h.bound,
      prices_short c.prices (recursion_from_All (λ v. v ≤ 2 ^ 50) c.prices h.price),
      points_short c.points (recursion_from_All IsPoint c.points h.point),
      h.cells,
      h.points,
      h.prices,
    )

-- ---- what `read` says

within : {A : Type 0} (b : Bool) (r : Result A CertFault) (c : A) → cond b (Err TooLong) r ≡ Ok c → r ≡ Ok c
within true r c e = absurd (cc e)
within false r c e = e

pub is_found : (text : List ℕ) (r : Result Certificate CertFault) → Gives (λ c. c) r (certificate_in text) → IfOk r (λ c. IsCertificate c × (text ≡ text_of c))
is_found text (Ok c) given = certificate_takes text c (within (ltb 8388608 (length text)) (certificate_of text) c given)
is_found text (Err e) given = tt

pub is_again : (c : Certificate) → IsCertificate c → certificate_in (text_of c) ≡ Ok c
is_again c h = rw (le-ltb 8388608 (length (text_of c)) (text_short c h)) (certificate_again c h)
