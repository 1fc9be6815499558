-- The flat lists where a cell is split: a first speed is put in behind the cell's own, and the starts of the later points rise by one.
use Rattle.std.proofs.Common.{ℕ, subst, ◌≡◌, ◌<◌, ◌≤◌, ◌+◌, ◌-◌, ◌∙◌, List, [], length, get_or, set, sym, ap, inl, inr, arith}
use Rattle.std.specs.List.{insert}
use Rattle.std.specs.Prelude.{slice_set}
use Rattle.std.proofs.lemmas.Bool.{cases_lt, cases_eq, cases_order}
use Rattle.std.proofs.lemmas.List.{ext_get_or, get_or-set_same, get_or-set_other, length-set}
use Rattle.std.proofs.lemmas.List.Edits.{length-insert, get_or-insert_below, get_or-insert_at, get_or-insert_above}
use Rattle.bound_specs.specs.declared.Cell.{Cell}
use Rattle.bound_specs.specs.Cells.{cells_of, cell_at, cell_count, no_cell, middle, lower_half, upper_half, split_cells}
use Rattle.speed_cells.specs.Layout.{count_at, first_at, above, cell_in, point_in, cells_in, IsLayout}
use Rattle.speed_cells.proofs.Points.{length-cells_in, cells_of-cells_in, length-point_in, get_or-point_in, above-next, above-last, starts_rise, cell_by, cell_of, counted, count_of, IsLaid, IsShown}
use Rattle.speed_cells.specs.declared.cells.Cells.TheInside.{Inside}
use Rattle.speed_cells.proofs.Halves.{cell_to_split, length-split, split-below, split-lower, split-upper, split-above}

-- starts t and first speeds g are s and f with cell c of point k split where m begins
pub record IsSplit (s f l t g : List ℕ) (k c m : ℕ) : Type 0 where
  pub laid : IsLayout s f l
  pub point : k < length l
  pub cell : c < count_at s k
  pub low : first_at s f k c < m
  pub high : m < above s f l k c
  pub starts : length t ≡ length s
  pub same : (j : ℕ) → j ≤ k → get_or t j 0 ≡ get_or s j 0
  pub raised : (j : ℕ) → k < j → j ≤ length l → get_or t j 0 ≡ get_or s j 0 + 1
  pub firsts : length g ≡ length f + 1
  pub below : (a b : ℕ) → a ≡ b → b ≤ get_or s k 0 + c → get_or g a 0 ≡ get_or f b 0
  pub here : (a : ℕ) → a ≡ get_or s k 0 + c + 1 → get_or g a 0 ≡ m
  pub beyond : (a b : ℕ) → a ≡ b + 1 → get_or s k 0 + c < b → get_or g a 0 ≡ get_or f b 0

-- cell e of point j in the new lists is cell d in the old ones
record SameCell (s f l t g : List ℕ) (j d e : ℕ) : Type 0 where
  first : first_at t g j e ≡ first_at s f j d
  above : above t g l j e ≡ above s f l j d

-- it has the same above it where as many cells follow, and the next one begins at the same speed
same_above : (s f l t g : List ℕ) (j d e : ℕ) → count_at t j + d ≡ count_at s j + e →
    (d + 1 < count_at s j → first_at t g j (e + 1) ≡ first_at s f j (d + 1)) → above t g l j e ≡ above s f l j d
same_above s f l t g j d e n h = elim (cases_lt (d + 1) (count_at s j)) [
  | inl lt ↦ above-next t g l j e (omega (arith, n, lt)) ∙ h lt ∙ sym (above-next s f l j d lt)
  | inr le ↦ above-last t g l j e (omega (arith, n, le)) ∙ sym (above-last s f l j d le)
]

-- so it is the same cell
same_cell : (s f l t g : List ℕ) (j d e : ℕ) → SameCell s f l t g j d e → cell_in t g l j e ≡ cell_in s f l j d
same_cell s f l t g j d e h =
    let last = ap (λ (n : ℕ). n - 1) h.above in
    cell_by (first_at t g j e) (above t g l j e - 1) (first_at s f j d) (above s f l j d - 1) h.first last

module _ (s f l t g : List ℕ) (k c m : ℕ) (h : IsSplit s f l t g k c m) where
  -- ---- cells

  -- a cell up to the split one keeps its first speed
  low_first : (j d : ℕ) → get_or t j 0 ≡ get_or s j 0 → get_or s j 0 + d ≤ get_or s k 0 + c → first_at t g j d ≡ first_at s f j d
  low_first j d same le = h.below (get_or t j 0 + d) (get_or s j 0 + d) (omega (arith, same)) le

  -- and so does one above it, one place further on
  high_first : (j d e : ℕ) → get_or t j 0 + e ≡ get_or s j 0 + d + 1 → get_or s k 0 + c < get_or s j 0 + d → first_at t g j e ≡ first_at s f j d
  high_first j d e same lt = h.beyond (get_or t j 0 + e) (get_or s j 0 + d) same lt

  -- the cells of a point before the split one
  before : (j d : ℕ) → j < k → d < count_at s j → SameCell s f l t g j d d
  before j d lt within =
      let a = h.same j (omega arith) in
      let b = h.same (j + 1) (omega arith) in
      let far = starts_rise s f l (j + 1) k h.laid (omega arith) (omega (arith, h.point)) in
      record {
        first = low_first j d a (omega (arith, far, within));
        above = same_above s f l t g j d d (omega (arith, a, b)) (λ next. low_first j (d + 1) a (omega (arith, far, next)));
      }

  -- and of one after it
  after : (j d : ℕ) → k < j → j < length l → d < count_at s j → SameCell s f l t g j d d
  after j d lt point within =
      let a = h.raised j lt (omega arith) in
      let b = h.raised (j + 1) (omega arith) (omega arith) in
      let far = starts_rise s f l (k + 1) j h.laid (omega arith) (omega arith) in
      let cell = h.cell in
      record {
        first = high_first j d d (omega (arith, a)) (omega (arith, far, cell));
        above = same_above s f l t g j d d (omega (arith, a, b)) (λ next. high_first j (d + 1) (d + 1) (omega (arith, a)) (omega (arith, far, cell)));
      }

  -- the split point has its start, and one cell more
  start : get_or t k 0 ≡ get_or s k 0
  start = h.same k (omega arith)

  count_split : count_at t k ≡ count_at s k + 1
  count_split = omega (arith, start, h.raised (k + 1) (omega arith) (omega (arith, h.point)), h.laid.rise k h.point)

  -- its cells below the split one
  left : (d : ℕ) → d < c → SameCell s f l t g k d d
  left d lt =
      let up = above-next t g l k d (omega (arith, count_split, h.cell)) in
      record {
        first = low_first k d start (omega arith);
        above = up ∙ low_first k (d + 1) start (omega arith) ∙ sym (above-next s f l k d (omega (arith, h.cell)));
      }

  -- the lower half runs from the cell's first speed to below m
  lower-first : first_at t g k c ≡ first_at s f k c
  lower-first = low_first k c start (omega arith)

  lower-above : above t g l k c ≡ m
  lower-above = above-next t g l k c (omega (arith, count_split, h.cell)) ∙ h.here (get_or t k 0 + (c + 1)) (omega (arith, start))

  -- the upper half runs from m to the cell's last speed
  upper-first : first_at t g k (c + 1) ≡ m
  upper-first = h.here (get_or t k 0 + (c + 1)) (omega (arith, start))

  upper-above : above t g l k (c + 1) ≡ above s f l k c
  upper-above = same_above s f l t g k c (c + 1) (omega (arith, count_split)) (λ next. high_first k (c + 1) (c + 1 + 1) (omega (arith, start)) (omega arith))

  -- its cells above the split one
  right : (d : ℕ) → c < d → SameCell s f l t g k d (d + 1)
  right d lt = record {
    first = high_first k d (d + 1) (omega (arith, start)) (omega arith);
    above = same_above s f l t g k d (d + 1) (omega (arith, count_split)) (λ next. high_first k (d + 1) (d + 1 + 1) (omega (arith, start)) (omega arith));
  }

  -- ---- the layout

  -- a cell has a speed, and none above 12,000
  abbrev Fine : ℕ → ℕ → Type 0
  Fine j e = (first_at t g j e < above t g l j e) × (above t g l j e ≤ 12001)

  -- since it had
  as_before : (j d e : ℕ) → j < length l → d < count_at s j → SameCell s f l t g j d e → Fine j e
  as_before j d e lt within same =
      (omega (arith, same.first, same.above, h.laid.speeds j d lt within), omega (arith, same.above, h.laid.in_range j d lt within))

  -- each cell of the split point
  fine_at_split : (e : ℕ) → e < count_at t k → Fine k e
  fine_at_split e lt = let most = h.laid.in_range k c h.point h.cell in elim (cases_order e c) [
    | inl same ↦ rw same (omega (arith, lower-first, lower-above, h.low), omega (arith, lower-above, h.high, most))
    | inr apart ↦ elim apart [
      | inl low ↦ as_before k e e h.point (omega (arith, h.cell)) (left e low)
      | inr high ↦ elim (cases_eq e (c + 1)) [
        | inl same ↦ rw same (omega (arith, upper-first, upper-above, h.high), omega (arith, upper-above, most))
        | inr far ↦ (let back : e - 1 + 1 ≡ e = omega arith in
            let fine = as_before k (e - 1) (e - 1 + 1) h.point (omega (arith, count_split)) (right (e - 1) (omega arith)) in
            rw back at fine)
      ]
    ]
  ]

  -- each cell
  fine : (j e : ℕ) → j < length l → e < count_at t j → Fine j e
  fine j e lt within = elim (cases_order j k) [
    | inl same ↦ rw same (fine_at_split e (rw same at within))
    | inr apart ↦ elim apart [
      | inl low ↦ (let few : e < count_at s j = omega (arith, within, h.same j (omega arith), h.same (j + 1) (omega arith)) in
          as_before j e e lt few (before j e low few))
      | inr high ↦ (let few : e < count_at s j = omega (arith, within, h.raised j high (omega arith), h.raised (j + 1) (omega arith) (omega arith)) in
          as_before j e e lt few (after j e high lt few))
    ]
  ]

  -- the starts rise
  rise : (j : ℕ) → j < length l → get_or t j 0 < get_or t (j + 1) 0
  rise j lt = elim (cases_lt j k) [
    | inl low ↦ omega (arith, h.same j (omega arith), h.same (j + 1) (omega arith), h.laid.rise j lt)
    | inr high ↦ elim (cases_eq j k) [
      | inl same ↦ omega (arith, h.same j (omega arith), h.raised (j + 1) (omega arith) (omega arith), h.laid.rise j lt)
      | inr apart ↦ omega (arith, h.raised j (omega arith) (omega arith), h.raised (j + 1) (omega arith) (omega arith), h.laid.rise j lt)
    ]
  ]

  -- so the new lists fit together
  pub laid_after : IsLayout t g l
  laid_after = record {
    some = h.laid.some;
    count = omega (arith, h.starts, h.laid.count);
    begin = omega (arith, h.same 0 (omega arith), h.laid.begin);
    end = omega (arith, h.raised (length l) h.point (omega arith), h.laid.end, h.firsts);
    rise = rise;
    speeds = λ j e lt within. (fine j e lt within).0;
    in_range = λ j e lt within. (fine j e lt within).1;
  }

  -- ---- the view

  -- a point whose cells are the same ones keeps them
  same_cells : (j : ℕ) → count_at t j ≡ count_at s j → ((d : ℕ) → d < count_at s j → SameCell s f l t g j d d) → point_in t g l j ≡ point_in s f l j
  same_cells j n e =
      let long = length-point_in t g l j ∙ n ∙ sym (length-point_in s f l j) in
      ext_get_or no_cell (point_in t g l j) (point_in s f l j) long (λ d lt.
      let within : d < count_at s j = omega (arith, length-point_in t g l j, n, lt) in
      get_or-point_in t g l j d no_cell (omega (arith, n, within))
      ∙ same_cell s f l t g j d d (e d within)
      ∙ sym (get_or-point_in s f l j d no_cell within))

  -- a point other than the split one keeps its cells
  same_point : (j : ℕ) → j < length l → (j ≡ k → ⊥) → point_in t g l j ≡ point_in s f l j
  same_point j lt apart = elim (cases_lt j k) [
    | inl low ↦ same_cells j (omega (arith, h.same j (omega arith), h.same (j + 1) (omega arith))) (λ d within. before j d low within)
    | inr high ↦ (let n : count_at t j ≡ count_at s j = omega (arith, h.raised j (omega arith) (omega arith), h.raised (j + 1) (omega arith) (omega arith)) in
        same_cells j n (λ d within. after j d (omega arith) lt within))
  ]

  module _ (half : m ≡ middle (cell_in s f l k c) + 1) where
    within : c < length (point_in s f l k)
    within = omega (arith, length-point_in s f l k, h.cell)

    -- the cell that is split
    whole : cell_to_split (point_in s f l k) c ≡ cell_in s f l k c
    whole = get_or-point_in s f l k c no_cell h.cell

    -- its halves
    lower : cell_in t g l k c ≡ lower_half (cell_to_split (point_in s f l k) c)
    lower =
        let last : above t g l k c - 1 ≡ middle (cell_in s f l k c) = omega (arith, lower-above, half) in
        cell_by (first_at t g k c) (above t g l k c - 1) (first_at s f k c) (middle (cell_in s f l k c)) lower-first last
        ∙ sym (ap lower_half whole)

    upper : cell_in t g l k (c + 1) ≡ upper_half (cell_to_split (point_in s f l k) c)
    upper =
        let last = ap (λ (n : ℕ). n - 1) upper-above in
        let first = upper-first ∙ half in
        cell_by (first_at t g k (c + 1)) (above t g l k (c + 1) - 1) (middle (cell_in s f l k c) + 1) (above s f l k c - 1) first last
        ∙ sym (ap upper_half whole)

    -- cell e of the split point
    halves : (e : ℕ) → e < count_at t k → cell_in t g l k e ≡ get_or (split_cells (point_in s f l k) c) e no_cell
    halves e lt =
        let cs = point_in s f l k in
        elim (cases_order e c) [
          | inl same ↦ ap (cell_in t g l k) same ∙ lower ∙ sym (split-lower cs c within e no_cell same)
          | inr apart ↦ elim apart [
            | inl low ↦ same_cell s f l t g k e e (left e low)
                ∙ sym (get_or-point_in s f l k e no_cell (omega (arith, h.cell, low)))
                ∙ sym (split-below cs c within e no_cell low)
            | inr high ↦ elim (cases_eq e (c + 1)) [
              | inl same ↦ ap (cell_in t g l k) same ∙ upper ∙ sym (split-upper cs c within e no_cell same)
              | inr far ↦ (let back : e ≡ e - 1 + 1 = omega arith in
                  ap (cell_in t g l k) back
                  ∙ same_cell s f l t g k (e - 1) (e - 1 + 1) (right (e - 1) (omega arith))
                  ∙ sym (get_or-point_in s f l k (e - 1) no_cell (omega (arith, count_split)))
                  ∙ sym (split-above cs c within e (e - 1) no_cell (omega arith) back))
            ]
          ]
        ]

    -- the split point has the cell's halves in its place
    split_point : point_in t g l k ≡ split_cells (point_in s f l k) c
    split_point =
        let long : length (point_in t g l k) ≡ length (split_cells (point_in s f l k) c) =
        omega (arith, length-point_in t g l k, length-point_in s f l k, count_split, length-split (point_in s f l k) c within) in
        ext_get_or no_cell (point_in t g l k) (split_cells (point_in s f l k) c) long (λ e lt.
        let b : e < count_at t k = omega (arith, length-point_in t g l k, lt) in
        get_or-point_in t g l k e no_cell b ∙ halves e b)

    -- and the other points keep theirs
    split_shown : cells_in t g l ≡ slice_set (cells_in s f l) k (split_cells (point_in s f l k) c)
    split_shown =
        let all = cells_in s f l in
        let parts = split_cells (point_in s f l k) c in
        let long = length-cells_in t g l ∙ sym (length-cells_in s f l) ∙ sym (length-set all k parts) in
        ext_get_or [] (cells_in t g l) (set all k parts) long (λ j lt.
        let b : j < length l = omega (arith, length-cells_in t g l, lt) in
        cells_of-cells_in t g l j b ∙ elim (cases_eq j k) [
          | inl same ↦ (let put = get_or-set_same all k parts [] (omega (arith, length-cells_in s f l, h.point)) in
              ap (point_in t g l) same ∙ split_point ∙ sym (ap (λ (n : ℕ). get_or (set all k parts) n []) same ∙ put))
          | inr apart ↦ same_point j b apart ∙ sym (cells_of-cells_in s f l j b) ∙ sym (get_or-set_other all k j parts [] apart)
        ])

    pub shown_after : (cells : List (List Cell)) → cells_in s f l ≡ cells → cells_in t g l ≡ slice_set cells k (split_cells (cells_of cells k) c)
    shown_after cells e =
        let IsShownAfter = λ (cs : List (List Cell)). cells_in t g l ≡ slice_set cs k (split_cells (cells_of cs k) c) in
        let of = sym (cells_of-cells_in s f l k h.point) in
        subst IsShownAfter e (split_shown ∙ ap (λ (p : List Cell). set (cells_in s f l) k (split_cells p c)) of)

-- what a split leaves
pub record Made (x : Inside) (cells : List (List Cell)) (k c : ℕ) (t g : List ℕ) : Type 0 where
  pub laid : IsLayout t g x.lasts.items
  pub shown : cells_in t g x.lasts.items ≡ slice_set cells k (split_cells (cells_of cells k) c)
  pub more : cell_count (cells_in t g x.lasts.items) ≡ cell_count cells + 1

-- it is left where the upper half's first speed is put in behind the cell's own, and the starts of the later points are raised
pub made : (x : Inside) (cells : List (List Cell)) (k c at : ℕ) (whole : Cell) (t g : List ℕ) →
    IsLaid x → IsShown x cells → k < length cells → c < length (cells_of cells k) → (cell_at cells k c).first < (cell_at cells k c).last →
    whole ≡ cell_at cells k c → at ≡ get_or x.starts.items k 0 + c → g ≡ insert x.firsts.items (at + 1) (middle whole + 1) →
    length t ≡ length x.starts.items → ((j : ℕ) → j < k + 1 → get_or t j 0 ≡ get_or x.starts.items j 0) →
    ((j : ℕ) → k + 1 ≤ j → j < length x.starts.items → get_or t j 0 ≡ get_or x.starts.items j 0 + 1) →
    Made x cells k c t g
made x cells k c at whole t g h e point cell two is spot put long same raised =
    let s = x.starts.items in
    let f = x.firsts.items in
    let l = x.lasts.items in
    let a = cell_of x cells k c h e point cell in
    let p = a.point in
    let m = middle whole + 1 in
    let half : m ≡ middle (cell_in s f l k c) + 1 = ap (λ (z : Cell). middle z + 1) (is ∙ a.is) in
    let wide : first_at s f k c < above s f l k c - 1 = rw a.is at two in
    let fits : at + 1 ≤ length f = omega (arith, p.end, a.inside, spot) in
    let read = λ (i j : ℕ) (eq : i ≡ j). ap (λ (n : ℕ). get_or g n 0) eq ∙ ap (λ (z : List ℕ). get_or z j 0) put in
    let parts : IsSplit s f l t g k c m = record {
      laid = h;
      point = p.point;
      cell = omega (arith, a.inside);
      low = omega (arith, half, wide);
      high = omega (arith, half, wide);
      starts = long;
      same = λ j le. same j (omega arith);
      raised = λ j lt le. raised j (omega arith) (omega (arith, h.count));
      firsts = ap length put ∙ length-insert f (at + 1) m fits;
      below = λ i b eq le. read i b eq ∙ get_or-insert_below f (at + 1) m 0 b (omega (arith, spot)) fits;
      here = λ i eq. read i (at + 1) (omega (arith, eq, spot)) ∙ get_or-insert_at f (at + 1) m 0 fits;
      beyond = λ i b eq lt. read i (b + 1) eq ∙ get_or-insert_above f (at + 1) m 0 b (omega (arith, spot)) fits;
    } in
    let laid = laid_after s f l t g k c m parts in
    record {
      laid = laid;
      shown = shown_after s f l t g k c m parts half cells e;
      more = counted t g l laid ∙ parts.firsts ∙ ap (λ (n : ℕ). n + 1) (sym (count_of x cells h e));
    }
