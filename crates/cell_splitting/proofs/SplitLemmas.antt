-- What splits keep.
use Rattle.std.proofs.Common.{ℕ, ◌≡◌, ◌≢◌, ◌<◌, ◌≤◌, ◌+◌, ◌-◌, ◌∙◌, List, [], length, get_or, set, refl, sym, ap, subst, inl, inr, arith}
use Rattle.std.specs.Prelude.{slice_set}
use Rattle.std.proofs.lemmas.Bool.{cases_eq, cases_order}
use Rattle.std.proofs.lemmas.List.{length-set, get_or-set_same, get_or-set_other}
use Rattle.std.proofs.lemmas.List.Sums.{sum_by-set}
use Rattle.bound_specs.specs.declared.Cell.{Cell}
use Rattle.bound_specs.specs.Cells.{no_cell, cells_of, cell_at, cell_count, split_cells, IsInside, CellsFit}
use Rattle.rail_specs.specs.Rules.{Rules}
use Rattle.speed_cells.specs.Laws.{CanSplit}
use Rattle.speed_cells.proofs.Fitting.{split_fit}
use Rattle.speed_cells.proofs.Halves.{length-split, split-below, split-lower, split-upper, split-above}
use Rattle.cell_splitting.specs.Splits.{ComeBySplits, unsplit, split, LieInside, IsSplitAt}

pub keep_fit : (r : Rules) (whole : List (List Cell)) {cells : List (List Cell)} → ComeBySplits whole cells → CellsFit r whole → CellsFit r cells
keep_fit r whole (unsplit cells e) h = subst (CellsFit r) (sym e) h
keep_fit r whole (split cells next k c come lt two e) h = subst (CellsFit r) (sym e) (split_fit r cells k c lt (keep_fit r whole come h) two)

-- none are split
pub unsplit_cells : (cells : List (List Cell)) → ComeBySplits cells cells
unsplit_cells cells = unsplit cells refl

pub follow : (whole : List (List Cell)) {cells next : List (List Cell)} → ComeBySplits whole cells → ComeBySplits cells next → ComeBySplits whole next
follow whole a (unsplit next e) = subst (ComeBySplits whole) (sym e) a
follow whole a (split cells next k c come lt two e) = split cells next k c (follow whole a come) lt two e

-- a cell lies inside itself
inside_self : (a : Cell) → IsInside a a
inside_self a = (omega arith, omega arith)

-- where one cell of a point is split, each cell lies inside one from before
split_inside : (cs : List Cell) (c d : ℕ) → CanSplit cs c → d < length cs + 1
    → (e : ℕ) × (e < length cs) × IsInside (get_or (split_cells cs c) d no_cell) (get_or cs e no_cell)
split_inside cs c d two lt = elim (cases_order d c) [
  | inl same ↦ (c, two.0, rw (split-lower cs c two.0 d no_cell same) (omega arith, omega (arith, two.1)))
  | inr apart ↦ elim apart [
    | inl low ↦ (d, omega (arith, two.0, low), rw (split-below cs c two.0 d no_cell low) (inside_self (get_or cs d no_cell)))
    | inr high ↦ elim (cases_eq d (c + 1)) [
      | inl same ↦ (c, two.0, rw (split-upper cs c two.0 d no_cell same) (omega (arith, two.1), omega arith))
      | inr far ↦ (d - 1, omega (arith, lt, high), rw (split-above cs c two.0 d (d - 1) no_cell (omega arith) (omega arith)) (inside_self (get_or cs (d - 1) no_cell)))
    ]
  ]
]

-- what lies inside a cell that lies inside another lies inside that
inside_again : (a b d : Cell) → IsInside a b → IsInside b d → IsInside a d
inside_again a b d h k = (omega (arith, h.0, k.0), omega (arith, h.1, k.1))

-- the same of cells that are equal
inside_by : {a b c d : Cell} → a ≡ c → b ≡ d → IsInside c d → IsInside a b
inside_by e f h = (omega (arith, h.0, ap (λ (x : Cell). x.first) e, ap (λ (x : Cell). x.first) f), omega (arith, h.1, ap (λ (x : Cell). x.last) e, ap (λ (x : Cell). x.last) f))

-- a point's cells where one is split
put_here : (cells : List (List Cell)) (k j : ℕ) (parts : List Cell) → k < length cells → j ≡ k → cells_of (set cells k parts) j ≡ parts
put_here cells k j parts lt same = ap (cells_of (set cells k parts)) same ∙ get_or-set_same cells k parts [] lt

module _ (cells : List (List Cell)) (k c : ℕ) (lt : k < length cells) (two : CanSplit (cells_of cells k) c) where
  -- each cell of the points after a split lies inside one from before
  step_inside : (j d : ℕ) → d < length (cells_of (slice_set cells k (split_cells (cells_of cells k) c)) j)
      → (e : ℕ) × (e < length (cells_of cells j)) × IsInside (cell_at (slice_set cells k (split_cells (cells_of cells k) c)) j d) (cell_at cells j e)
  step_inside j d inside =
      let parts = split_cells (cells_of cells k) c in
      elim (cases_eq j k) [
        | inl same ↦ (
            let put = put_here cells k j parts lt same in
            let n : d < length (cells_of cells k) + 1 = omega (arith, inside, ap length put, length-split (cells_of cells k) c two.0) in
            let found = split_inside (cells_of cells k) c d two n in
            let at : cells_of cells k ≡ cells_of cells j = ap (cells_of cells) (sym same) in
            let there : found.0 < length (cells_of cells j) = omega (arith, found.1, ap length at) in
            let whole : get_or (cells_of cells k) found.0 no_cell ≡ cell_at cells j found.0 = ap (λ (x : List Cell). get_or x found.0 no_cell) at in
            let part : cell_at (set cells k parts) j d ≡ get_or parts d no_cell = ap (λ (x : List Cell). get_or x d no_cell) put in
            (found.0, there, inside_by part (sym whole) found.2))
        | inr apart ↦ (
            let kept : cells_of (set cells k parts) j ≡ cells_of cells j = get_or-set_other cells k j parts [] apart in
            let same : cell_at (set cells k parts) j d ≡ cell_at cells j d = ap (λ (x : List Cell). get_or x d no_cell) kept in
            (d, omega (arith, inside, ap length kept), inside_by same refl (inside_self (cell_at cells j d))))
      ]

pub keep_points : (whole : List (List Cell)) {cells : List (List Cell)} → ComeBySplits whole cells → length cells ≡ length whole
keep_points whole (unsplit cells e) = ap length e
keep_points whole (split cells next k c come lt two e) = ap length e ∙ length-set cells k (split_cells (cells_of cells k) c) ∙ keep_points whole come

-- splits keep cells inside
pub keep_inside : (whole : List (List Cell)) {cells : List (List Cell)} → ComeBySplits whole cells → (j d : ℕ) → d < length (cells_of cells j)
    → (e : ℕ) × (e < length (cells_of whole j)) × IsInside (cell_at cells j d) (cell_at whole j e)
keep_inside whole (unsplit cells e) j d lt =
    (d, omega (arith, lt, ap (λ (x : List (List Cell)). length (cells_of x j)) e), inside_by (ap (λ (x : List (List Cell)). cell_at x j d) e) refl (inside_self (cell_at whole j d)))
keep_inside whole (split cells next k c come lt two e) j d in_it =
    let parts = slice_set cells k (split_cells (cells_of cells k) c) in
    let n : d < length (cells_of parts j) = omega (arith, in_it, ap (λ (x : List (List Cell)). length (cells_of x j)) e) in
    let step = step_inside cells k c lt two j d n in
    let rest = keep_inside whole come j step.0 step.1 in
    (rest.0, rest.1, inside_by (ap (λ (x : List (List Cell)). cell_at x j d) e) refl (inside_again (cell_at parts j d) (cell_at cells j step.0) (cell_at whole j rest.0) step.2 rest.2))

pub lie_inside : (whole cells : List (List Cell)) → ComeBySplits whole cells → LieInside cells whole
lie_inside whole cells h = record {
  points = keep_points whole h;
  inside = λ k c lt in_it. keep_inside whole h k c in_it;
}

-- a split adds a cell
step_count : (cells : List (List Cell)) (k c : ℕ) → k < length cells → c < length (cells_of cells k)
    → cell_count (slice_set cells k (split_cells (cells_of cells k) c)) ≡ cell_count cells + 1
step_count cells k c lt in_it =
    omega (arith, sum_by-set length cells k (split_cells (cells_of cells k) c) [] lt, length-split (cells_of cells k) c in_it)

pub count_more : (whole : List (List Cell)) {cells : List (List Cell)} → ComeBySplits whole cells → cell_count whole ≤ cell_count cells
count_more whole (unsplit cells e) = omega (arith, ap cell_count e)
count_more whole (split cells next k c come lt two e) =
    omega (arith, ap cell_count e, step_count cells k c lt two.0, count_more whole come)

-- one more split
pub one_more : (whole cells next : List (List Cell)) (k c : ℕ) → ComeBySplits whole cells → k < length cells → CanSplit (cells_of cells k) c
    → next ≡ slice_set cells k (split_cells (cells_of cells k) c) → ComeBySplits whole next
one_more whole cells next k c come lt two e = split cells next k c come lt two e

-- what holds where a cell was split
module _ (cells next : List (List Cell)) (k c : ℕ) (lt : k < length cells) (h : IsSplitAt cells next k c) where
  pub split_comes : (whole : List (List Cell)) → ComeBySplits whole cells → ComeBySplits whole next
  split_comes whole come = split cells next k c come lt h.two h.split

  pub split_points : length next ≡ length cells
  split_points = ap length h.split ∙ length-set cells k (split_cells (cells_of cells k) c)

  pub split_others : (j : ℕ) → j ≢ k → cells_of next j ≡ cells_of cells j
  split_others j apart = ap (λ (x : List (List Cell)). cells_of x j) h.split ∙ get_or-set_other cells k j (split_cells (cells_of cells k) c) [] apart

  pub split_here : cells_of next k ≡ split_cells (cells_of cells k) c
  split_here = ap (λ (x : List (List Cell)). cells_of x k) h.split ∙ put_here cells k k (split_cells (cells_of cells k) c) lt refl

  pub split_length : length (cells_of next k) ≡ length (cells_of cells k) + 1
  split_length = ap length split_here ∙ length-split (cells_of cells k) c h.two.0

  pub split_before : (d : ℕ) → d < c → cell_at next k d ≡ cell_at cells k d
  split_before d low = ap (λ (x : List Cell). get_or x d no_cell) split_here ∙ split-below (cells_of cells k) c h.two.0 d no_cell low
