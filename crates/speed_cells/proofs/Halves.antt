-- The cells of a point where one is split into its halves.
use Rattle.std.proofs.Common.{ℕ, ◌≡◌, ◌<◌, ◌+◌, ◌-◌, ◌∙◌, List, ◌∷◌, length, get_or, take, drop, refl, sym, ap, inl, inr, suc, arith, length-append, length-take, length-drop}
use Rattle.std.proofs.lemmas.Bool.{cases_eq, cases_order}
use Rattle.std.proofs.lemmas.List.{get_or_append_left, get_or-take, get_or_at, get_or-append-add, get_or-drop}
use Rattle.bound_specs.specs.declared.Cell.{Cell}
use Rattle.bound_specs.specs.Cells.{no_cell, lower_half, upper_half, split_cells, IsCell, AreAdjacent, RunFrom}
use Rattle.speed_cells.specs.Laws.{CanSplit}

-- the cell that is split
abbrev pub cell_to_split : List Cell → ℕ → Cell
cell_to_split cs c = get_or cs c no_cell

-- its upper half and what lies above it
abbrev upper_part : List Cell → ℕ → List Cell
upper_part cs c = upper_half (cell_to_split cs c) ∷ drop (c + 1) cs

-- its halves and what lies above them
abbrev halves_on : List Cell → ℕ → List Cell
halves_on cs c = lower_half (cell_to_split cs c) ∷ upper_part cs c

module _ (cs : List Cell) (c : ℕ) (within : c < length cs) where
  -- there is one cell more
  pub length-split : length (split_cells cs c) ≡ length cs + 1
  length-split = omega (arith, length-append (take c cs) (halves_on cs c), length-take c cs, length-drop (c + 1) cs)

  -- below the cell nothing changes
  pub split-below : (d : ℕ) (z : Cell) → d < c → get_or (split_cells cs c) d z ≡ get_or cs d z
  split-below d z lt = get_or_append_left (take c cs) (halves_on cs c) z d (omega (arith, length-take c cs)) ∙ get_or-take c cs d z lt

  -- its lower half is in its place
  pub split-lower : (d : ℕ) (z : Cell) → d ≡ c → get_or (split_cells cs c) d z ≡ lower_half (cell_to_split cs c)
  split-lower d z e = get_or_at (take c cs) (lower_half (cell_to_split cs c)) (upper_part cs c) z d (omega (arith, length-take c cs))

  -- what is there from its place on
  split-on : (d : ℕ) (z : Cell) → get_or (split_cells cs c) (c + d) z ≡ get_or (halves_on cs c) d z
  split-on d z =
      let e : c + d ≡ length (take c cs) + d = omega (arith, length-take c cs) in
      ap (λ (k : ℕ). get_or (split_cells cs c) k z) e ∙ get_or-append-add (take c cs) (halves_on cs c) d z

  -- its upper half is behind the lower one
  pub split-upper : (d : ℕ) (z : Cell) → d ≡ c + 1 → get_or (split_cells cs c) d z ≡ upper_half (cell_to_split cs c)
  split-upper d z e = ap (λ (k : ℕ). get_or (split_cells cs c) k z) e ∙ split-on 1 z

  -- and what lay above the cell has moved on by one
  pub split-above : (d b : ℕ) (z : Cell) → c < b → d ≡ b + 1 → get_or (split_cells cs c) d z ≡ get_or cs b z
  split-above d b z lt e =
      let at : d ≡ c + suc (suc (b - (c + 1))) = omega arith in
      let back : c + 1 + (b - (c + 1)) ≡ b = omega arith in
      ap (λ (k : ℕ). get_or (split_cells cs c) k z) at
      ∙ split-on (suc (suc (b - (c + 1)))) z
      ∙ get_or-drop (c + 1) cs (b - (c + 1)) z
      ∙ ap (λ (k : ℕ). get_or cs k z) back

-- the cells of a point where a cell of two or more speeds is split
module _ (cs : List Cell) (c : ℕ) (h : AreAdjacent cs) (two : CanSplit cs c) where
  -- each is a cell
  split_cell : (d : ℕ) → d < length cs + 1 → IsCell (get_or (split_cells cs c) d no_cell)
  split_cell d lt = elim (cases_order d c) [
    | inl same ↦ rw (split-lower cs c two.0 d no_cell same) (omega arith, omega (arith, (h.cells c two.0).1))
    | inr apart ↦ elim apart [
      | inl low ↦ rw (split-below cs c two.0 d no_cell low) (h.cells d (omega arith))
      | inr high ↦ elim (cases_eq d (c + 1)) [
        | inl same ↦ rw (split-upper cs c two.0 d no_cell same) (omega arith, omega (arith, (h.cells c two.0).1))
        | inr far ↦ rw (split-above cs c two.0 d (d - 1) no_cell (omega arith) (omega arith)) (h.cells (d - 1) (omega arith))
      ]
    ]
  ]

  -- each begins right above the one before
  split_next : (d : ℕ) → d + 1 < length cs + 1 → (get_or (split_cells cs c) (d + 1) no_cell).first ≡ (get_or (split_cells cs c) d no_cell).last + 1
  split_next d lt =
      let first = λ (n : ℕ). (get_or cs n no_cell).first in
      elim (cases_order d c) [
        | inl same ↦ rw (split-lower cs c two.0 d no_cell same, split-upper cs c two.0 (d + 1) no_cell (omega arith)) refl
        | inr apart ↦ elim apart [
          | inl low ↦ rw (split-below cs c two.0 d no_cell low) (elim (cases_eq (d + 1) c) [
            | inl same ↦ rw (split-lower cs c two.0 (d + 1) no_cell same) (ap first (sym same) ∙ h.next d (omega arith))
            | inr far ↦ rw (split-below cs c two.0 (d + 1) no_cell (omega arith)) (h.next d (omega arith))
          ])
          | inr high ↦ rw (split-above cs c two.0 (d + 1) d no_cell high refl) (elim (cases_eq d (c + 1)) [
            | inl same ↦ rw (split-upper cs c two.0 d no_cell same) (ap first same ∙ h.next c (omega arith))
            | inr far ↦ (let back : d - 1 + 1 ≡ d = omega arith in
                let before = split-above cs c two.0 d (d - 1) no_cell (omega arith) (sym back) in
                rw before (ap first (sym back) ∙ h.next (d - 1) (omega arith)))
          ])
        ]
      ]

  -- they lie side by side
  pub split_adjacent : AreAdjacent (split_cells cs c)
  split_adjacent = record {
    some = omega (arith, length-split cs c two.0);
    cells = λ d lt. split_cell d (omega (arith, length-split cs c two.0, lt));
    next = λ d lt. split_next d (omega (arith, length-split cs c two.0, lt));
  }

  -- the least speed stays
  split_first : (get_or (split_cells cs c) 0 no_cell).first ≡ (get_or cs 0 no_cell).first
  split_first = elim (cases_eq 0 c) [
    | inl same ↦ rw (split-lower cs c two.0 0 no_cell same) (ap (λ (n : ℕ). (get_or cs n no_cell).first) (sym same))
    | inr apart ↦ rw (split-below cs c two.0 0 no_cell (omega arith)) refl
  ]

  -- and the greatest
  split_last : (get_or (split_cells cs c) (length (split_cells cs c) - 1) no_cell).last ≡ (get_or cs (length cs - 1) no_cell).last
  split_last =
      let end : length (split_cells cs c) - 1 ≡ length cs = omega (arith, length-split cs c two.0) in
      ap (λ (k : ℕ). (get_or (split_cells cs c) k no_cell).last) end ∙ elim (cases_eq (c + 1) (length cs)) [
        | inl same ↦ (let at : c ≡ length cs - 1 = omega arith in
            ap (λ (z : Cell). z.last) (split-upper cs c two.0 (length cs) no_cell (sym same)) ∙ ap (λ (k : ℕ). (get_or cs k no_cell).last) at)
        | inr apart ↦ ap (λ (z : Cell). z.last) (split-above cs c two.0 (length cs) (length cs - 1) no_cell (omega arith) (omega arith))
      ]

-- so the cells run from the same least to the same greatest speed
pub split_run : (least greatest : ℕ) (cs : List Cell) (c : ℕ) → RunFrom least greatest cs → CanSplit cs c → RunFrom least greatest (split_cells cs c)
split_run least greatest cs c h two = record {
  adjacent = split_adjacent cs c h.adjacent two;
  first = split_first cs c h.adjacent two ∙ h.first;
  last = split_last cs c h.adjacent two ∙ h.last;
}
