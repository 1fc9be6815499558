-- Values copied from one table into the list of another, from some point on.
use Rattle.std.proofs.Common.{ℕ, zero, suc, ◌≡◌, ◌<◌, ◌≤◌, ◌+◌, ◌-◌, ◌∙◌, Option, None, List, length, get_or, ap, sym, subst, arith, inl, inr}
use Rattle.std.specs.Prelude.{ℤ}
use Rattle.std.proofs.lemmas.Bool.{cases_lt}
use Rattle.std.proofs.lemmas.List.{get_or_past, get_or_default}
use Rattle.bound_specs.specs.declared.Cell.{Cell}
use Rattle.bound_specs.specs.Cells.{cells_of}
use Rattle.bound_specs.specs.Chains.{values_of, value_at}
use Rattle.potential_table.specs.Filling.{value_from, IsSumOf, AreSmallFrom, AreStarts}
use Rattle.potential_table.specs.Layout.{values_in, IsLayout}
use Rattle.potential_table.proofs.LayoutLemmas.{points, count, value}
use Rattle.potential_table.proofs.StartLemmas.{later}

module _ (cells : List (List Cell)) (starts : List ℕ) (h : AreStarts starts cells)
    (old_starts : List ℕ) (old : List (Option ℤ)) (view : List (List (Option ℤ))) (same : values_in old_starts old ≡ view) (layout : IsLayout old_starts old)
    (as_many : length view ≡ length cells) (point : ℕ) (inside : point < length cells)
    (widths : (j : ℕ) → point ≤ j → j < length cells → length (values_of view j) ≡ length (cells_of cells j)) where
  -- there is a start for each point, and one behind them
  start_count : length old_starts ≡ length cells + 1
  start_count = omega (arith, layout.some, points old_starts old layout, ap length same, as_many)

  -- from the point on the starts of both lie equally far behind the point's
  alike : (far : ℕ) → point + far ≤ length cells → get_or starts (point + far) 0 + get_or old_starts point 0 ≡ get_or old_starts (point + far) 0 + get_or starts point 0
  alike zero l = let e : point + 0 ≡ point = omega arith in omega (arith, ap (λ k. get_or starts k 0) e, ap (λ k. get_or old_starts k 0) e)
  alike (suc far) l =
      let k : ℕ = point + far in
      let e : point + suc far ≡ k + 1 = omega arith in
      omega (
        arith,
        alike far (omega (arith, l)),
        ap (λ i. get_or starts i 0) e,
        ap (λ i. get_or old_starts i 0) e,
        h.next k (omega (arith, l)),
        count old_starts old layout k (omega (arith, l, start_count)),
        ap (λ (v : List (List (Option ℤ))). length (values_of v k)) same,
        widths k (omega arith) (omega (arith, l)),
      )

  alike_at : (k : ℕ) → point ≤ k → k ≤ length cells → get_or starts k 0 + get_or old_starts point 0 ≡ get_or old_starts k 0 + get_or starts point 0
  alike_at k le l =
      let e : point + (k - point) ≡ k = omega (arith, le) in
      subst (λ (i : ℕ). get_or starts i 0 + get_or old_starts point 0 ≡ get_or old_starts i 0 + get_or starts point 0) e (alike (k - point) (omega (arith, le, l)))

  -- what was read of the starts
  pub point_inside : point < length old_starts
  point_inside = omega (arith, start_count, inside)

  pub old_start_read : (s : ℕ) → s ≡ get_or old_starts point s → s ≡ get_or old_starts point 0
  old_start_read s e = e ∙ get_or_default old_starts point s 0 point_inside

  pub start_read : (s : ℕ) → s ≡ get_or starts point s → s ≡ get_or starts point 0
  start_read s e = e ∙ get_or_default starts point s 0 (omega (arith, h.points, inside))

  -- both lists end equally far behind the point's start
  pub ends_alike : (count : ℕ) → count ≡ get_or starts (length cells) 0 → get_or starts point 0 + length old ≡ get_or old_starts point 0 + count
  ends_alike n e =
      let last : length old_starts - 1 ≡ length cells = omega (arith, start_count) in
      omega (arith, alike_at (length cells) (omega (arith, inside)) (omega arith), e, layout.last, ap (λ k. get_or old_starts k 0) last)

  module _ (new : List (Option ℤ)) (long : length new ≡ get_or starts (length cells) 0)
      (copied : (j : ℕ) → get_or old_starts point 0 + j < length old → get_or new (get_or starts point 0 + j) None ≡ get_or old (get_or old_starts point 0 + j) None) where
    -- each value from the point on is the one that it was
    pub values_copied : (k c : ℕ) → point ≤ k → k < length cells → c < length (cells_of cells k) → value_from new (get_or starts k 0) c ≡ value_at view k c
    values_copied k c le l in_point =
        let both = alike_at k le (omega (arith, l)) in
        let from : get_or starts point 0 ≤ get_or starts k 0 = later starts cells h point k le (omega (arith, l)) in
        let j : ℕ = get_or starts k 0 + c - get_or starts point 0 in
        let here : get_or starts point 0 + j ≡ get_or starts k 0 + c = omega (arith, from) in
        let there : get_or old_starts point 0 + j ≡ get_or old_starts k 0 + c = omega (arith, from, both) in
        let in_width : c < length (values_of (values_in old_starts old) k) =
        omega (arith, in_point, widths k le l, ap (λ (v : List (List (Option ℤ))). length (values_of v k)) same) in
        let room : get_or old_starts point 0 + j < length old =
        omega (arith, there, ends_alike (length new) long, long, both, in_point, h.next k l, later starts cells h (k + 1) (length cells) (omega (arith, l)) (omega arith)) in
        ap (λ (i : ℕ). get_or new i None) (sym here) ∙ copied j room ∙ ap (λ (i : ℕ). get_or old i None) there
        ∙ sym (value old_starts old layout k c (omega (arith, l, start_count)) in_width)
        ∙ ap (λ (v : List (List (Option ℤ))). value_at v k c) same

    -- and as small as it was
    pub small_copied : AreSmallFrom starts (length cells) new point
    small_copied m i le l at = elim (cases_lt i (length new)) [
      | inl before ↦
          let both = alike_at m le (omega (arith, l)) in
          let from : get_or starts point 0 ≤ get_or starts m 0 = later starts cells h point m le (omega (arith, l)) in
          let j : ℕ = i - get_or starts point 0 in
          let here : get_or starts point 0 + j ≡ i = omega (arith, from, at) in
          let room : get_or old_starts point 0 + j < length old = omega (arith, here, before, ends_alike (length new) long) in
          let as_small = layout.small m (get_or old_starts point 0 + j) (omega arith) (omega (arith, l, start_count)) (omega (arith, here, at, both)) in
          let n : length old_starts - 1 - 1 - m ≡ length cells - 1 - m = omega (arith, start_count) in
          subst (λ (k : ℕ). IsSumOf k (get_or new i None)) n
          (subst (IsSumOf (length old_starts - 1 - 1 - m)) (sym (copied j room) ∙ ap (λ (k : ℕ). get_or new k None) here) as_small)
      | inr past ↦ subst (IsSumOf (length cells - 1 - m)) (sym (get_or_past new i None past)) tt
    ]
