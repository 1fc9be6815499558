use Rattle.std.proofs.Common.{ℕ, ◌≡◌, ◌<◌, ◌≤◌, ◌+◌, ◌-◌, ◌∙◌, List, Bool, true, false, length, get_or, set, sym, ap, subst, refl, arith}
use Rattle.std.specs.Prelude.{slice_set, MatchBool}
use Rattle.std.proofs.lemmas.List.{set-get_or, set-set, get_or-set_same, length-set}
use Rattle.bound_specs.specs.declared.Cell.{Cell}
use Rattle.bound_specs.specs.Cells.{no_cell, cells_of, cell_at, split_cells}
use Rattle.cell_splitting.specs.Splits.{ComeBySplits, unsplit, IsSplitAt, IsSingleAt}
use Rattle.cell_splitting.proofs.SplitLemmas.{split_comes}
use Rattle.cell_splitting.proofs.Halving.{halved_from, from_end, from-cell, from-two, from-one}
use Rattle.cell_splitting.proofs.even.halve_point.Goals as goal

-- cells of which those of point k from c on are halved
abbrev halved_at : List (List Cell) → ℕ → ℕ → List (List Cell)
halved_at cells k c = set cells k (halved_from (cells_of cells k) c)

none_halved : (cells : List (List Cell)) (k c : ℕ) → c ≡ length (cells_of cells k) → cells ≡ halved_at cells k c
none_halved cells k c e = sym (ap (set cells k) (from_end (cells_of cells k) c e) ∙ set-get_or cells k _)

module _ (whole cells next : List (List Cell)) (k c : ℕ) (lt : k < length whole) (in_it : c < length (cells_of whole k)) (is : cells ≡ halved_at whole k (c + 1)) where
  now : cells_of cells k ≡ halved_from (cells_of whole k) (c + 1)
  now = ap (λ (x : List (List Cell)). cells_of x k) is ∙ get_or-set_same whole k (halved_from (cells_of whole k) (c + 1)) _ lt

  here : cell_at cells k c ≡ cell_at whole k c
  here = ap (λ (x : List Cell). get_or x c no_cell) now ∙ from-cell (cells_of whole k) c in_it

  one_split : IsSplitAt cells next k c → next ≡ halved_at whole k c
  one_split h =
      let two : (cell_at whole k c).first < (cell_at whole k c).last = omega (arith, h.two.1, ap (λ (a : Cell). a.first) here, ap (λ (a : Cell). a.last) here) in
      h.split ∙ ap (λ (x : List Cell). slice_set cells k (split_cells x c)) now
      ∙ ap (slice_set cells k) (from-two (cells_of whole k) c in_it two)
      ∙ ap (λ (x : List (List Cell)). slice_set x k (halved_from (cells_of whole k) c)) is
      ∙ set-set whole k (halved_from (cells_of whole k) (c + 1)) (halved_from (cells_of whole k) c)

  one_left : IsSingleAt cells next k c → next ≡ halved_at whole k c
  one_left h =
      let one : (cell_at whole k c).last ≤ (cell_at whole k c).first = omega (arith, h.one, ap (λ (a : Cell). a.first) here, ap (λ (a : Cell). a.last) here) in
      h.same ∙ is ∙ ap (set whole k) (from-one (cells_of whole k) c in_it one)

  one_more : (two : Bool) → MatchBool two (IsSplitAt cells next k c) (IsSingleAt cells next k c) → next ≡ halved_at whole k c
  one_more true h = one_split h
  one_more false h = one_left h

-- the cells still come by splits
come_on : (whole cells next : List (List Cell)) (k c : ℕ) → ComeBySplits whole cells → k < length cells → (two : Bool)
    → MatchBool two (IsSplitAt cells next k c) (IsSingleAt cells next k c) → ComeBySplits whole next
come_on whole cells next k c come lt true h = split_comes cells next k c lt h whole come
come_on whole cells next k c come lt false h = subst (ComeBySplits whole) (sym h.same) come

pub loop-cell-init : goal.loop-cell-init
loop-cell-init c = record {
  come = unsplit c.args.cells.now refl;
  value = none_halved c.args.cells.now c.args.point c.of-cell.result c.of-cell.ensures.value;
}

pub loop-cell-preserved : goal.loop-cell-preserved
loop-cell-preserved c =
    let k = c.args.point in
    let i = c.loop-cell.invariant in
    let d : ℕ = c.loop-cell.cell - 1 in
    let up : d + 1 ≡ c.loop-cell.cell = omega (arith, c.loop-cell-test.true) in
    let in_it : d < length (cells_of c.args.cells.now k) = omega (arith, c.loop-cell-test.true, c.loop-cell.auto.cell, c.of-cell.ensures.value) in
    let is : c.loop-cell.cells ≡ halved_at c.args.cells.now k (d + 1) = i.value ∙ ap (halved_at c.args.cells.now k) (sym up) in
    record {
      come = come_on c.args.cells.now c.loop-cell.cells c.split_if_two.new.cells k d i.come (omega (arith, c.requires, ap length is, length-set c.args.cells.now k (halved_from (cells_of c.args.cells.now k) (d + 1)))) c.in_ok-_two._two c.in_ok-_two.ensures;
      value = one_more c.args.cells.now c.loop-cell.cells c.split_if_two.new.cells k d c.requires in_it is c.in_ok-_two._two c.in_ok-_two.ensures;
    }
