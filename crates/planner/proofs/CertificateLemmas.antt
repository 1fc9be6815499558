-- Cells with their potentials, as a certificate says them.
use Rattle.std.proofs.Common.{◌≡◌, ◌<◌, ◌≤◌, ◌+◌, ◌-◌, ◌^◌, ◌∷◌, ◌∙◌, ℕ, zero, suc, ℤ, List, [], Option, None, Some, refl, sym, ap, subst, arith, length, map}
use Rattle.std.specs.Prelude.{IfSome, slice_index_or}
use Rattle.std.specs.Int.RustNames.{unsigned_abs}
use Rattle.bound_specs.specs.declared.Cell.{Cell}
use Rattle.bound_specs.specs.Cells.{no_cell, IsCell, AreAdjacent}
use Rattle.dual_certificate.specs.declared.certificate.CertCell.{CertCell}
use Rattle.dual_certificate.specs.Contents.{no_cert_cell, cells_up_to}
use Rattle.dual_certificate.specs.Text.{IsModest, RiseFrom, IsPoint}

-- lists that agree at each place
pub map_same : {A B : Type 0} (f : A → B) (xs : List A) (ys : List B) (a : A) (b : B) → length xs ≡ length ys
    → ((k : ℕ) → k < length ys → f (slice_index_or xs k a) ≡ slice_index_or ys k b) → map f xs ≡ ys
map_same f [] [] a b h g = refl
map_same f [] (y ∷ ys) a b h g = absurd (omega (arith, h))
map_same f (x ∷ xs) [] a b h g = absurd (omega (arith, h))
map_same f (x ∷ xs) (y ∷ ys) a b h g = rw (g 0 (omega arith), map_same f xs ys a b (omega (arith, h)) (λ k l. g (suc k) (omega (arith, l)))) refl

-- the greatest speed of cells
abbrev pub top_of : List Cell → ℕ
top_of [] = 0
top_of (c ∷ []) = c.last
top_of (c ∷ d ∷ cs) = top_of (d ∷ cs)

-- cells side by side
abbrev Run : List Cell → Type 0
Run [] = Unit {0}
Run (c ∷ []) = IsCell c
Run (c ∷ d ∷ cs) = IsCell c × (d.first ≡ c.last + 1) × Run (d ∷ cs)

suc_next : (j : ℕ) → suc j + 1 ≡ suc (j + 1)
suc_next j = omega arith

run_of : (cs : List Cell) → ((c : ℕ) → c < length cs → IsCell (slice_index_or cs c no_cell))
    → ((c : ℕ) → c + 1 < length cs → (slice_index_or cs (c + 1) no_cell).first ≡ (slice_index_or cs c no_cell).last + 1) → Run cs
run_of [] is next = tt
run_of (c ∷ []) is next = is 0 (omega arith)
run_of (c ∷ d ∷ cs) is next = (
  is 0 (omega arith),
  next 0 (omega arith),
  run_of (d ∷ cs) (λ j l. is (suc j) (omega (arith, l)))
      (λ j l. subst (λ (m : ℕ). (slice_index_or (c ∷ d ∷ cs) m no_cell).first ≡ (slice_index_or (d ∷ cs) j no_cell).last + 1) (suc_next j) (next (suc j) (omega (arith, l)))),
)

pub last_is_top : (cs : List Cell) (n : ℕ) → length cs ≡ n + 1 → (slice_index_or cs n no_cell).last ≡ top_of cs
last_is_top [] n e = absurd (omega (arith, e))
last_is_top (c ∷ []) zero e = refl
last_is_top (c ∷ []) (suc n) e = absurd (omega (arith, e))
last_is_top (c ∷ d ∷ cs) zero e = absurd (omega (arith, e))
last_is_top (c ∷ d ∷ cs) (suc n) e = last_is_top (d ∷ cs) n (omega (arith, e))

below_top : (c : Cell) (cs : List Cell) → Run (c ∷ cs) → (c.first ≤ c.last) × (c.last ≤ top_of (c ∷ cs)) × (top_of (c ∷ cs) ≤ 12000)
below_top c [] h = (h.0, omega arith, h.1)
below_top c (d ∷ cs) h = let b = below_top d cs h.2 in (h.0.0, omega (arith, b, h.1), b.2)

-- a certificate's cells say cells and their values, place by place
pub record Say (list : List CertCell) (cs : List Cell) (vs : List (Option ℤ)) : Type 0 where
  pub cells : length list ≡ length cs
  pub valued : length vs ≡ length cs
  pub first : (c : ℕ) → c < length list → (slice_index_or list c no_cert_cell).first ≡ (slice_index_or cs c no_cell).first
  pub potential : (c : ℕ) → c < length list → (slice_index_or list c no_cert_cell).potential ≡ slice_index_or vs c None
  pub small : (c : ℕ) → c < length list → IfSome (slice_index_or list c no_cert_cell).potential (λ p. unsigned_abs p ≤ 2 ^ 98)

modest : (p : Option ℤ) → IfSome p (λ q. unsigned_abs q ≤ 2 ^ 98) → IfSome p IsModest
modest None h = tt
modest (Some q) h = omega (arith, h)

behind_first : (x : CertCell) (list : List CertCell) (c : Cell) (cs : List Cell) (v : Option ℤ) (vs : List (Option ℤ)) → Say (x ∷ list) (c ∷ cs) (v ∷ vs) → Say list cs vs
behind_first x list c cs v vs h = record {
  cells = omega (arith, h.cells);
  valued = omega (arith, h.valued);
  first = λ k l. h.first (suc k) (omega (arith, l));
  potential = λ k l. h.potential (suc k) (omega (arith, l));
  small = λ k l. h.small (suc k) (omega (arith, l));
}

-- so they give those cells back
cells_back : (list : List CertCell) (cs : List Cell) (vs : List (Option ℤ)) → Say list cs vs → Run cs → cells_up_to (top_of cs) list ≡ cs
cells_back [] [] vs h r = refl
cells_back [] (c ∷ cs) vs h r = absurd (omega (arith, h.cells))
cells_back (x ∷ list) [] vs h r = absurd (omega (arith, h.cells))
cells_back (x ∷ list) (c ∷ cs) [] h r = absurd (omega (arith, h.valued))
cells_back (x ∷ []) (c ∷ []) (v ∷ vs) h r = ap (λ (f : ℕ). record { first = f; last = c.last } ∷ []) (h.first 0 (omega arith))
cells_back (x ∷ []) (c ∷ d ∷ cs) (v ∷ vs) h r = absurd (omega (arith, h.cells))
cells_back (x ∷ y ∷ list) (c ∷ []) (v ∷ vs) h r = absurd (omega (arith, h.cells))
cells_back (x ∷ y ∷ list) (c ∷ d ∷ cs) (v ∷ vs) h r =
    let own : x.first ≡ c.first = h.first 0 (omega arith) in
    let next : y.first ≡ d.first = h.first 1 (omega arith) in
    let last : y.first - 1 ≡ c.last = omega (arith, next, r.1) in
    rw (own, last, cells_back (y ∷ list) (d ∷ cs) vs (behind_first x (y ∷ list) c (d ∷ cs) v vs h) r.2) refl

-- and those values
values_back : (list : List CertCell) (cs : List Cell) (vs : List (Option ℤ)) → Say list cs vs → map (λ k. k.potential) list ≡ vs
values_back list cs vs h = map_same (λ k. k.potential) list vs no_cert_cell None (h.cells ∙ sym h.valued) (λ k l. h.potential k (omega (arith, l, h.cells, h.valued)))

-- and their first speeds rise, their potentials being modest
rising : (list : List CertCell) (cs : List Cell) (vs : List (Option ℤ)) (least : ℕ) → Say list cs vs → Run cs → (1 ≤ length cs → least ≤ (slice_index_or cs 0 no_cell).first) → RiseFrom least (top_of cs) list
rising [] cs vs least h r low = tt
rising (x ∷ list) [] vs least h r low = absurd (omega (arith, h.cells))
rising (x ∷ list) (c ∷ cs) [] least h r low = absurd (omega (arith, h.valued))
rising (x ∷ []) (c ∷ []) (v ∷ vs) least h r low =
    let own : x.first ≡ c.first = h.first 0 (omega arith) in
    ((omega (arith, own, low (omega arith)), omega (arith, own, r), modest x.potential (h.small 0 (omega arith))), tt)
rising (x ∷ []) (c ∷ d ∷ cs) (v ∷ vs) least h r low = absurd (omega (arith, h.cells))
rising (x ∷ y ∷ list) (c ∷ []) (v ∷ vs) least h r low = absurd (omega (arith, h.cells))
rising (x ∷ y ∷ list) (c ∷ d ∷ cs) (v ∷ vs) least h r low =
    let own : x.first ≡ c.first = h.first 0 (omega arith) in
    let b = below_top d cs r.2 in (
      (omega (arith, own, low (omega arith)), omega (arith, own, r.0, r.1, b), modest x.potential (h.small 0 (omega arith))),
      rising (y ∷ list) (d ∷ cs) vs (x.first + 1) (behind_first x (y ∷ list) c (d ∷ cs) v vs h) r.2 (λ some. omega (arith, own, r.0, r.1)),
    )

-- a point of a certificate, whose cells say these
pub says_cells : (list : List CertCell) (cs : List Cell) (vs : List (Option ℤ)) → Say list cs vs → AreAdjacent cs → cells_up_to (top_of cs) list ≡ cs
says_cells list cs vs h a = cells_back list cs vs h (run_of cs a.cells a.next)

pub says_values : (list : List CertCell) (cs : List Cell) (vs : List (Option ℤ)) → Say list cs vs → map (λ k. k.potential) list ≡ vs
says_values list cs vs h = values_back list cs vs h

pub fits : (speed greatest : ℕ) (list : List CertCell) (cs : List Cell) (vs : List (Option ℤ)) → Say list cs vs → AreAdjacent cs → greatest ≡ top_of cs → speed ≤ 12000
    → IsPoint (record { speed = speed; greatest = greatest; cells = list })
fits speed greatest list [] vs h a e slow = absurd (omega (arith, a.some))
fits speed greatest list (c ∷ cs) vs h a e slow =
    let r = run_of (c ∷ cs) a.cells a.next in
    let b = below_top c cs r in
    record {
      speed = slow;
      greatest = omega (arith, e, b);
      some = omega (arith, h.cells);
      cells = subst (λ (g : ℕ). RiseFrom 0 g list) (sym e) (rising list (c ∷ cs) vs 0 h r (λ some. omega arith));
    }
