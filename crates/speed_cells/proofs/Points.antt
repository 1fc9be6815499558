-- What the flat lists show, read point by point and cell by cell.
use Rattle.std.proofs.Common.{ℕ, zero, suc, ◌≡◌, ◌<◌, ◌≤◌, ◌+◌, ◌-◌, ◌∙◌, List, [], ◌∷◌, length, get_or, map, sym, ap, subst, inl, inr, arith}
use Rattle.std.specs.List.{range_with_len, sum_by}
use Rattle.std.specs.Prelude.{slice_index}
use Rattle.std.proofs.lemmas.Bool.{cases_eq}
use Rattle.std.proofs.lemmas.Bool.Decides.{nat_tests}
use Rattle.std.proofs.lemmas.List.{get_or_read, get_or-map, length-map, ext_get_or}
use Rattle.std.proofs.lemmas.List.FromFn.{length-map-range_with_len, get_or-map-range_with_len, sum_by-map-range_with_len_more}
use Rattle.bound_specs.specs.declared.Cell.{Cell}
use Rattle.bound_specs.specs.Cells.{cells_of, cell_at, cell_count, no_cell, whole_cell, IsCell, AreAdjacent}
use Rattle.speed_cells.specs.declared.cells.Cells.TheInside.{Inside}
use Rattle.speed_cells.specs.Layout.{count_at, first_at, above, cell_in, point_in, cells_in, IsLayout}

-- ---- the view

-- as many points as greatest speeds
pub length-cells_in : (s f l : List ℕ) → length (cells_in s f l) ≡ length l
length-cells_in s f l = length-map-range_with_len (point_in s f l) 0 (length l)

-- the cells of point k
pub cells_of-cells_in : (s f l : List ℕ) (k : ℕ) → k < length l → cells_of (cells_in s f l) k ≡ point_in s f l k
cells_of-cells_in s f l k lt = get_or-map-range_with_len (point_in s f l) 0 (length l) k k [] lt (omega arith)

-- how many cells point k has
pub length-point_in : (s f l : List ℕ) (k : ℕ) → length (point_in s f l k) ≡ count_at s k
length-point_in s f l k = length-map-range_with_len (cell_in s f l k) 0 (count_at s k)

-- cell c of point k
pub get_or-point_in : (s f l : List ℕ) (k c : ℕ) (d : Cell) → c < count_at s k → get_or (point_in s f l k) c d ≡ cell_in s f l k c
get_or-point_in s f l k c d lt = get_or-map-range_with_len (cell_in s f l k) 0 (count_at s k) c c d lt (omega arith)

-- ---- what is above a cell

-- the next cell begins there
pub above-next : (s f l : List ℕ) (k c : ℕ) → c + 1 < count_at s k → above s f l k c ≡ first_at s f k (c + 1)
above-next s f l k c lt = grind (arith, nat_tests)

-- and above the point's last cell it is one more than its greatest speed
pub above-last : (s f l : List ℕ) (k c : ℕ) → count_at s k ≤ c + 1 → above s f l k c ≡ slice_index l k + 1
above-last s f l k c le = grind (arith, nat_tests)

-- ---- the starts

-- a later start is no smaller
pub starts_rise : (s f l : List ℕ) (i j : ℕ) → IsLayout s f l → i ≤ j → j ≤ length l → get_or s i 0 ≤ get_or s j 0
starts_rise s f l i zero h a b = let e : i ≡ 0 = omega arith in rw e (let k : get_or s 0 0 ≤ get_or s 0 0 = omega arith in k)
starts_rise s f l i (suc j) h a b = elim (cases_eq i (suc j)) [
  | inl e ↦ rw e (let k : get_or s (suc j) 0 ≤ get_or s (suc j) 0 = omega arith in k)
  | inr n ↦ (let on : j + 1 ≡ suc j = omega arith in
      let up : get_or s j 0 < get_or s (suc j) 0 = subst (λ (x : ℕ). get_or s j 0 < get_or s x 0) on (h.rise j (omega arith)) in
      let low = starts_rise s f l i j h (omega arith) (omega arith) in
      omega arith)
]

-- the fields show these cells
abbrev pub IsShown : Inside → List (List Cell) → Type 0
IsShown x cells = cells_in x.starts.items x.firsts.items x.lasts.items ≡ cells

-- the fields fit together
abbrev pub IsLaid : Inside → Type 0
IsLaid x = IsLayout x.starts.items x.firsts.items x.lasts.items

-- what the fields say of a point of the cells
pub record PointOf (x : Inside) (cells : List (List Cell)) (k : ℕ) : Type 0 where
  pub point : k < length x.lasts.items
  pub starts : length x.starts.items ≡ length x.lasts.items + 1
  pub rises : get_or x.starts.items k 0 < get_or x.starts.items (k + 1) 0
  pub end : get_or x.starts.items (k + 1) 0 ≤ length x.firsts.items
  pub is : cells_of cells k ≡ point_in x.starts.items x.firsts.items x.lasts.items k
  pub count : length (cells_of cells k) ≡ get_or x.starts.items (k + 1) 0 - get_or x.starts.items k 0

-- as many points as greatest speeds
pub points_of : (x : Inside) (cells : List (List Cell)) → IsShown x cells → length cells ≡ length x.lasts.items
points_of x cells e = sym (ap length e) ∙ length-cells_in x.starts.items x.firsts.items x.lasts.items

-- and that they say it
pub point_of : (x : Inside) (cells : List (List Cell)) (k : ℕ) → IsLaid x → IsShown x cells → k < length cells → PointOf x cells k
point_of x cells k h e lt =
    let n = points_of x cells e in
    let within : k < length x.lasts.items = omega arith in
    let far = starts_rise x.starts.items x.firsts.items x.lasts.items (k + 1) (length x.lasts.items) h (omega arith) (omega arith) in
    let is : cells_of cells k ≡ point_in x.starts.items x.firsts.items x.lasts.items k =
    ap (λ (cs : List (List Cell)). cells_of cs k) (sym e) ∙ cells_of-cells_in x.starts.items x.firsts.items x.lasts.items k within in
    record {
      point = within;
      starts = h.count;
      rises = h.rise k within;
      end = omega (arith, far, h.end);
      is = is;
      count = ap length is ∙ length-point_in x.starts.items x.firsts.items x.lasts.items k;
    }

-- what the fields say of a cell of the cells
pub record CellOf (x : Inside) (cells : List (List Cell)) (k c : ℕ) : Type 0 where
  pub point : PointOf x cells k
  pub inside : get_or x.starts.items k 0 + c < get_or x.starts.items (k + 1) 0
  pub is : cell_at cells k c ≡ cell_in x.starts.items x.firsts.items x.lasts.items k c
  pub rises : first_at x.starts.items x.firsts.items k c < above x.starts.items x.firsts.items x.lasts.items k c
  pub high : above x.starts.items x.firsts.items x.lasts.items k c ≤ 12001

-- and that they say it
pub cell_of : (x : Inside) (cells : List (List Cell)) (k c : ℕ) → IsLaid x → IsShown x cells → k < length cells → c < length (cells_of cells k) →
    CellOf x cells k c
cell_of x cells k c h e lt within =
    let p = point_of x cells k h e lt in
    let below : c < count_at x.starts.items k = omega (arith, p.count) in
    record {
      point = p;
      inside = omega arith;
      is = ap (λ (cs : List Cell). get_or cs c no_cell) p.is ∙ get_or-point_in x.starts.items x.firsts.items x.lasts.items k c no_cell below;
      rises = h.speeds k c p.point below;
      high = h.in_range k c p.point below;
    }

-- the cells of a point lie side by side
pub adjacent_in : (x : Inside) (cells : List (List Cell)) (k : ℕ) → IsLaid x → IsShown x cells → k < length cells →
    AreAdjacent (cells_of cells k)
adjacent_in x cells k h e lt =
    let p = point_of x cells k h e lt in
    record {
      some = omega arith;
      cells = λ c b.
          let a = cell_of x cells k c h e lt b in
          subst IsCell (sym a.is) (omega (arith, a.rises), omega (arith, a.high));
      next = λ c b.
          let a = cell_of x cells k c h e lt (omega arith) in
          let z = cell_of x cells k (c + 1) h e lt b in
          let up = above-next x.starts.items x.firsts.items x.lasts.items k c (omega (arith, p.count)) in
          rw (a.is, z.is) (omega (arith, a.rises, up));
    }

-- ---- how many cells there are

-- the cells of the first n points end where those of point n start
count_below : (s f l : List ℕ) (n : ℕ) → IsLayout s f l → n ≤ length l →
    sum_by length (map (point_in s f l) (range_with_len 0 n)) ≡ get_or s n 0
count_below s f l zero h le = sym h.begin
count_below s f l (suc n) h le =
    let on : n + 1 ≡ suc n = omega arith in
    let more = sum_by-map-range_with_len_more length (point_in s f l) 0 n n (omega arith) in
    let one = length-point_in s f l n in
    let low = count_below s f l n h (omega arith) in
    let up = h.rise n (omega arith) in
    let Ends = λ (m : ℕ). sum_by length (map (point_in s f l) (range_with_len 0 m)) ≡ get_or s m 0 in
    subst Ends on (more ∙ omega (arith, one, low, up))

-- as many cells as first speeds
pub counted : (s f l : List ℕ) → IsLayout s f l → cell_count (cells_in s f l) ≡ length f
counted s f l h = count_below s f l (length l) h (omega arith) ∙ h.end

pub count_of : (x : Inside) (cells : List (List Cell)) → IsLaid x → IsShown x cells → cell_count cells ≡ length x.firsts.items
count_of x cells h e = ap cell_count (sym e) ∙ counted x.starts.items x.firsts.items x.lasts.items h

-- what an index reads, at an equal index
pub read_at : (xs : List ℕ) (i j x : ℕ) → x ≡ get_or xs i x → i < length xs → i ≡ j → x ≡ get_or xs j 0
read_at xs i j x e lt same = get_or_read xs i x lt e 0 ∙ ap (λ (n : ℕ). get_or xs n 0) same

-- two cells of equal speeds are equal
pub cell_by : (a b p q : ℕ) → a ≡ p → b ≡ q → ◌≡◌ {A = Cell} (record { first = a; last = b }) (record { first = p; last = q })
cell_by a b p q e h = cc

-- ---- one cell for each point

-- where point k's one cell is cell k of all
whole_point : (s f l : List ℕ) (k : ℕ) (p : ℕ × ℕ) → get_or s k 0 ≡ k → get_or s (k + 1) 0 ≡ k + 1 → get_or f k 0 ≡ p.0 → get_or l k 0 ≡ p.1 →
    point_in s f l k ≡ whole_cell p
whole_point s f l k p a b first last =
    let one : count_at s k ≡ 1 = omega arith in
    let at : get_or s k 0 + 0 ≡ k = omega arith in
    let up = above-last s f l k 0 (omega (arith, one)) in
    let low = ap (λ (n : ℕ). get_or f n 0) at ∙ first in
    let same = cell_by (first_at s f k 0) (above s f l k 0 - 1) p.0 p.1 low (omega (arith, up, last)) in
    ap (λ (n : ℕ). map (cell_in s f l k) (range_with_len 0 n)) one ∙ ap (λ (x : Cell). x ∷ []) same

-- each point has one cell, from its pair
pub whole_in : (s f l : List ℕ) (pairs : List (ℕ × ℕ)) → length l ≡ length pairs → ((k : ℕ) → k ≤ length pairs → get_or s k 0 ≡ k) →
    ((k : ℕ) → k < length pairs → get_or f k 0 ≡ (get_or pairs k (0, 0)).0) →
    ((k : ℕ) → k < length pairs → get_or l k 0 ≡ (get_or pairs k (0, 0)).1) →
    cells_in s f l ≡ map whole_cell pairs
whole_in s f l pairs long start first last =
    ext_get_or [] (cells_in s f l) (map whole_cell pairs) (length-cells_in s f l ∙ long ∙ sym (length-map pairs whole_cell)) (λ k lt.
    let within : k < length pairs = omega (arith, length-cells_in s f l) in
    cells_of-cells_in s f l k (omega arith)
    ∙ whole_point s f l k (get_or pairs k (0, 0)) (start k (omega arith)) (start (k + 1) (omega arith)) (first k within) (last k within)
    ∙ sym (get_or-map whole_cell pairs k (0, 0) [] within))
