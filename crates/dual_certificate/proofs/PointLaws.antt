-- The line of a point, and the lines of points, both ways.
use Rattle.std.proofs.Common.{◌≡◌, ◌<◌, ◌≤◌, ◌+◌, ◌-◌, ◌∷◌, ◌++◌, ◌∙◌, ◌&&◌, ℕ, zero, suc, ℤ, pos, ◌≤ℤ◌, List, [], Bool, true, Option, Some, None, Ok, refl, sym, ap, subst, arith, length, map, append_assoc, codes, inl}
use Rattle.std.specs.Prelude.{IfSome}
use Rattle.std.specs.List.{AllByRecursion, flat_map}
use Rattle.std.specs.Fmt.{decimal}
use Rattle.std.specs.Int.RustNames.{unsigned_abs}
use Rattle.std.proofs.lemmas.Int.{ints}
use Rattle.std.proofs.lemmas.Bool.{ne_eqb}
use Rattle.std.proofs.lemmas.List.Concat.{flat_map-cons}
use Rattle.std.proofs.lemmas.List.Sums.{sum_by-cons}
use Rattle.std.proofs.lemmas.List.Splits.{join_with_byte-slice_split}
use Rattle.rail_base.specs.Lines.{fields_of}
use Rattle.rail_base.specs.Texts.{line}
use Rattle.dual_certificate.specs.declared.certificate.CertCell.{CertCell}
use Rattle.dual_certificate.specs.declared.certificate.CertPoint.{CertPoint}
use Rattle.dual_certificate.specs.Grammar.{◌>>=◌, cut, formed, line_at, behind, cells_read, is_speed, number_before, point_at, points_at}
use Rattle.dual_certificate.specs.Numbers.{number_spelled}
use Rattle.dual_certificate.specs.Text.{IsModest, RiseFrom, IsPoint, cells_in, cell_text, potential_text, fields_text, point_line}
use Rattle.dual_certificate.proofs.FieldLists.{both_true}
use Rattle.dual_certificate.proofs.Numerals.{Lacks, lacks-append, decimal_lacks, signed_lacks, number_takes}
use Rattle.dual_certificate.proofs.Cuts.{bind_ok, ok_is, formed_ok, cut_takes, cut_again, line_takes, line_again, behind_takes}
use Rattle.dual_certificate.proofs.ListLaws.{cells_take, cells_again, cells_good, natural, number_first}
use Rattle.dual_certificate.proofs.LineLaws.{within_is, is_within_so, some_fields, fields_lack, fields_back}

-- a number up to a space
number_before_takes : (n : ℕ) (text : List ℕ) (x : ℤ × List ℕ) → number_before n text ≡ Ok x → (l : List ℕ) × (text ≡ l ++ 32 ∷ x.1) × (number_spelled l ≡ Some x.0)
unfolding number_before
number_before_takes n text x e =
    let a = bind_ok (formed n (cut 32 text)) (λ parts. formed n (number_spelled parts.0) >>= λ number. Ok (number, parts.1)) x e in
    let b = bind_ok (formed n (number_spelled a.0.0)) (λ number. Ok (number, a.0.1)) x a.2 in
    let at = cut_takes 32 text a.0 (formed_ok n (cut 32 text) a.0 a.1) in
    let is = ok_is (b.0, a.0.1) x b.2 in
    subst (λ (y : ℤ × List ℕ). (l : List ℕ) × (text ≡ l ++ 32 ∷ y.1) × (number_spelled l ≡ Some y.0)) is (a.0.0, at, formed_ok n (number_spelled a.0.0) b.0 b.1)

number_before_again : (n v : ℕ) (rest : List ℕ) → v ≤ 12000 → number_before n (decimal v ++ 32 ∷ rest) ≡ Ok (pos v, rest)
unfolding number_before
number_before_again n v rest h = rw (cut_again 32 (decimal v) rest (decimal_lacks 32 v (omega (arith, h)) (inl (omega arith))), number_first v h) refl

-- a speed that is read is spelled so
speed_takes : (text l rest : List ℕ) (z : ℤ) → text ≡ l ++ 32 ∷ rest → number_spelled l ≡ Some z → is_speed z ≡ true → (text ≡ decimal (unsigned_abs z) ++ 32 ∷ rest) × (unsigned_abs z ≤ 12000) × (pos 0 ≤ℤ z) × (z ≤ℤ pos 12000)
speed_takes text l rest z e h fit =
    let i = within_is (pos 0) (pos 12000) z fit in
    let small : unsigned_abs z ≤ 12000 = omega (arith, ints, i.above, i.below) in
    let is : l ≡ decimal (unsigned_abs z) = number_takes l z h (omega (arith, small)) ∙ natural z i.above in
    (e ∙ ap (λ (x : List ℕ). x ++ 32 ∷ rest) is, small, i.above, i.below)

-- the parts of a point's line together
point_whole : (text l b v g rest : List ℕ) (p : CertPoint) (x : CertPoint × List ℕ) {room : ℕ} → text ≡ line l ++ rest → l ≡ codes "point " ++ b → b ≡ decimal p.speed ++ 32 ∷ v
    → v ≡ decimal p.greatest ++ 32 ∷ g → g ≡ fields_text (map cell_text p.cells) → IsPoint p × (length p.cells ≤ room) → (p, rest) ≡ x
    → (text ≡ point_line x.0 ++ x.1) × IsPoint x.0 × (length x.0.cells ≤ room)
unfolding point_line
point_whole text l b v g rest p x {room} e0 e1 e2 e3 e4 facts is =
    let vs : v ≡ decimal p.greatest ++ 32 ∷ fields_text (map cell_text p.cells) = e3 ∙ ap (λ (t : List ℕ). decimal p.greatest ++ 32 ∷ t) e4 in
    let bs : b ≡ decimal p.speed ++ 32 ∷ (decimal p.greatest ++ 32 ∷ fields_text (map cell_text p.cells)) = e2 ∙ ap (λ (t : List ℕ). decimal p.speed ++ 32 ∷ t) vs in
    let ls : l ≡ codes "point " ++ (decimal p.speed ++ 32 ∷ (decimal p.greatest ++ 32 ∷ fields_text (map cell_text p.cells))) = e1 ∙ ap (λ (t : List ℕ). codes "point " ++ t) bs in
    let whole : text ≡ point_line p ++ rest = e0 ∙ ap (λ (t : List ℕ). line t ++ rest) ls in
    subst (λ (y : CertPoint × List ℕ). (text ≡ point_line y.0 ++ y.1) × IsPoint y.0 × (length y.0.cells ≤ room)) is (whole, facts.0, facts.1)

pub point_takes : (n room : ℕ) (text : List ℕ) (x : CertPoint × List ℕ) → point_at n room text ≡ Ok x → (text ≡ point_line x.0 ++ x.1) × IsPoint x.0 × (length x.0.cells ≤ room)
unfolding point_at point_line
point_takes n room text x e =
    let a = bind_ok (line_at n text) (λ l. behind n (codes "point ") l.0 >>= λ rest. number_before n rest >>= λ speed. number_before n speed.1 >>= λ greatest. cells_read n greatest.0 (is_speed speed.0 && is_speed greatest.0) (room, pos 0) (fields_of greatest.1) >>= λ cells. Ok (record { speed = unsigned_abs speed.0; greatest = unsigned_abs greatest.0; cells = cells }, l.1)) x e in
    let b = bind_ok (behind n (codes "point ") a.0.0) (λ rest. number_before n rest >>= λ speed. number_before n speed.1 >>= λ greatest. cells_read n greatest.0 (is_speed speed.0 && is_speed greatest.0) (room, pos 0) (fields_of greatest.1) >>= λ cells. Ok (record { speed = unsigned_abs speed.0; greatest = unsigned_abs greatest.0; cells = cells }, a.0.1)) x a.2 in
    let v = bind_ok (number_before n b.0) (λ speed. number_before n speed.1 >>= λ greatest. cells_read n greatest.0 (is_speed speed.0 && is_speed greatest.0) (room, pos 0) (fields_of greatest.1) >>= λ cells. Ok (record { speed = unsigned_abs speed.0; greatest = unsigned_abs greatest.0; cells = cells }, a.0.1)) x b.2 in
    let g = bind_ok (number_before n v.0.1) (λ greatest. cells_read n greatest.0 (is_speed v.0.0 && is_speed greatest.0) (room, pos 0) (fields_of greatest.1) >>= λ cells. Ok (record { speed = unsigned_abs v.0.0; greatest = unsigned_abs greatest.0; cells = cells }, a.0.1)) x v.2 in
    let c = bind_ok (cells_read n g.0.0 (is_speed v.0.0 && is_speed g.0.0) (room, pos 0) (fields_of g.0.1)) (λ cells. Ok (record { speed = unsigned_abs v.0.0; greatest = unsigned_abs g.0.0; cells = cells }, a.0.1)) x g.2 in
    let good = cells_good n room g.0.0 (is_speed v.0.0 && is_speed g.0.0) (fields_of g.0.1) c.0 c.1 in
    let speeds = both_true (is_speed v.0.0) (is_speed g.0.0) good in
    let vt = number_before_takes n b.0 v.0 v.1 in
    let gt = number_before_takes n v.0.1 g.0 g.1 in
    let vs = speed_takes b.0 vt.0 v.0.1 v.0.0 vt.1 vt.2 speeds.0 in
    let gs = speed_takes v.0.1 gt.0 g.0.1 g.0.0 gt.1 gt.2 speeds.1 in
    let cells = cells_take n room g.0.0 (fields_of g.0.1) c.0 gs.2 gs.3 (subst (λ (k : Bool). cells_read n g.0.0 k (room, pos 0) (fields_of g.0.1) ≡ Ok c.0) good c.1) in
    let joined : g.0.1 ≡ fields_text (map cell_text c.0) = sym (join_with_byte-slice_split 32 g.0.1) ∙ ap fields_text cells.0 in
    let made : CertPoint = record { speed = unsigned_abs v.0.0; greatest = unsigned_abs g.0.0; cells = c.0 } in
    point_whole text a.0.0 b.0 v.0.1 g.0.1 a.0.1 made x (line_takes n text a.0 a.1) (behind_takes n (codes "point ") a.0.0 b.0 b.1) vs.0 gs.0 joined
    (record { speed = vs.1; greatest = gs.1; some = some_fields g.0.1 cell_text c.0 cells.0; cells = cells.1.1 }, cells.1.0) (ok_is (made, a.0.1) x c.2)

-- a cell's text has no byte but digits, `=` and `-`
potential_lacks : (b : ℕ) (q : Option ℤ) → b < 45 → IfSome q IsModest → Lacks b (potential_text q)
potential_lacks b None low h = (ne_eqb 45 b (λ e. omega arith), tt)
potential_lacks b (Some z) low h = signed_lacks b z (omega (arith, h)) (inl (omega arith)) (ne_eqb 45 b (λ e. omega arith))

cells_lack : (b least greatest : ℕ) (cs : List CertCell) → b < 45 → greatest ≤ 12000 → RiseFrom least greatest cs → AllByRecursion (λ c. Lacks b (cell_text c)) cs
cells_lack b least greatest [] low few h = tt
cells_lack b least greatest (c ∷ cs) low few h = (
  lacks-append b (decimal c.first) (61 ∷ potential_text c.potential) (decimal_lacks b c.first (omega (arith, few, h.0.1)) (inl (omega arith)))
      (ne_eqb 61 b (λ e. omega arith), potential_lacks b c.potential low h.0.2),
  cells_lack b (c.first + 1) greatest cs low few h.1,
)

-- a point's line without its end
inside_lacks : (p : CertPoint) → IsPoint p → Lacks 10 (codes "point " ++ (decimal p.speed ++ 32 ∷ (decimal p.greatest ++ 32 ∷ fields_text (map cell_text p.cells))))
inside_lacks p h =
    let cells = fields_lack 10 cell_text p.cells refl (cells_lack 10 0 p.greatest p.cells (omega arith) h.greatest h.cells) in
    let great = lacks-append 10 (decimal p.greatest) (32 ∷ fields_text (map cell_text p.cells)) (decimal_lacks 10 p.greatest (omega (arith, h.greatest)) (inl (omega arith))) (refl, cells) in
    let speed = lacks-append 10 (decimal p.speed) (32 ∷ (decimal p.greatest ++ 32 ∷ fields_text (map cell_text p.cells))) (decimal_lacks 10 p.speed (omega (arith, h.speed)) (inl (omega arith))) (refl, great) in
    (refl, (refl, (refl, (refl, (refl, (refl, speed))))))

-- both speeds of a point are in their range
speeds_fit : (v g : ℕ) → v ≤ 12000 → g ≤ 12000 → (is_speed (pos v) && is_speed (pos g)) ≡ true
speeds_fit v g h k = rw (is_within_so (pos 0) (pos 12000) (pos v) (omega (arith, ints)) (omega (arith, ints)), is_within_so (pos 0) (pos 12000) (pos g) (omega (arith, ints)) (omega (arith, ints))) refl

pub point_again : (n room : ℕ) (p : CertPoint) (rest : List ℕ) → IsPoint p → length p.cells ≤ room → point_at n room (point_line p ++ rest) ≡ Ok (p, rest)
unfolding point_at point_line
point_again n room p rest h few =
    rw (
      line_again n (codes "point " ++ (decimal p.speed ++ 32 ∷ (decimal p.greatest ++ 32 ∷ fields_text (map cell_text p.cells)))) rest (inside_lacks p h),
      number_before_again n p.speed (decimal p.greatest ++ 32 ∷ fields_text (map cell_text p.cells)) h.speed,
      number_before_again n p.greatest (fields_text (map cell_text p.cells)) h.greatest,
      speeds_fit p.speed p.greatest h.speed h.greatest,
      fields_back cell_text p.cells h.some (cells_lack 32 0 p.greatest p.cells (omega arith) h.greatest h.cells),
      cells_again n room p.greatest p.cells h.greatest (few, h.cells),
    ) refl

-- ---- points

-- points that are read
pub record PointsTake (count room : ℕ) (text : List ℕ) (x : List CertPoint × List ℕ) : Type 0 where
  pub parts : text ≡ flat_map point_line x.0 ++ x.1
  pub many : length x.0 ≡ count
  pub each : AllByRecursion IsPoint x.0
  pub cells : cells_in x.0 ≤ room

points_together : (count room : ℕ) (text : List ℕ) (p : CertPoint × List ℕ) (ps : List CertPoint × List ℕ) → text ≡ point_line p.0 ++ p.1 → IsPoint p.0 → length p.0.cells ≤ room
    → PointsTake count (room - length p.0.cells) p.1 ps → PointsTake (suc count) room text (p.0 ∷ ps.0, ps.1)
points_together count room text p ps e h few t = record {
  parts = e ∙ (ap (λ (x : List ℕ). point_line p.0 ++ x) t.parts ∙ (sym (append_assoc (point_line p.0) (flat_map point_line ps.0) ps.1) ∙ ap (λ (x : List ℕ). x ++ ps.1) (sym (flat_map-cons point_line p.0 ps.0))));
  many = ap suc t.many;
  each = (h, t.each);
  cells = omega (arith, sum_by-cons (λ (q : CertPoint). length q.cells) p.0 ps.0, t.cells, few);
}

pub points_take : (count n room : ℕ) (text : List ℕ) (x : List CertPoint × List ℕ) → points_at count n room text ≡ Ok x → PointsTake count room text x
unfolding points_at
points_take zero n room text x e = subst (PointsTake zero room text) (ok_is ([], text) x e) (record { parts = refl; many = refl; each = tt; cells = omega arith })
points_take (suc count) n room text x e =
    let a = bind_ok (point_at n room text) (λ point. points_at count (n + 1) (room - length point.0.cells) point.1 >>= λ others. Ok (point.0 ∷ others.0, others.1)) x e in
    let b = bind_ok (points_at count (n + 1) (room - length a.0.0.cells) a.0.1) (λ others. Ok (a.0.0 ∷ others.0, others.1)) x a.2 in
    let first = point_takes n room text a.0 a.1 in
    let behind = points_take count (n + 1) (room - length a.0.0.cells) a.0.1 b.0 b.1 in
    subst (PointsTake (suc count) room text) (ok_is (a.0.0 ∷ b.0.0, b.0.1) x b.2) (points_together count room text a.0 b.0 first.0 first.1 first.2 behind)

pub points_again : (ps : List CertPoint) (n room : ℕ) (rest : List ℕ) → AllByRecursion IsPoint ps → cells_in ps ≤ room → points_at (length ps) n room (flat_map point_line ps ++ rest) ≡ Ok (ps, rest)
unfolding points_at
points_again [] n room rest h few = refl
points_again (p ∷ ps) n room rest h few =
    let sum = sum_by-cons (λ (q : CertPoint). length q.cells) p ps in
    let here : length p.cells ≤ room = omega (arith, sum) in
    let behind : cells_in ps ≤ room - length p.cells = omega (arith, sum) in
    let regrouped : flat_map point_line (p ∷ ps) ++ rest ≡ point_line p ++ (flat_map point_line ps ++ rest) =
    ap (λ (x : List ℕ). x ++ rest) (flat_map-cons point_line p ps) ∙ append_assoc (point_line p) (flat_map point_line ps) rest in
    ap (points_at (suc (length ps)) n room) regrouped
    ∙ rw (point_again n room p (flat_map point_line ps ++ rest) h.0 here, points_again ps (n + 1) (room - length p.cells) rest h.1 behind) refl
