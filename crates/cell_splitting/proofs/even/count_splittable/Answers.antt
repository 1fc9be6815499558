use Rattle.std.proofs.Common.{ℕ, ◌≡◌, ◌<◌, ◌≤◌, ◌+◌, ◌∙◌, List, [], length, map, take, drop, ap, arith}
use Rattle.std.proofs.lemmas.List.{get_or-map, length-map, take_all}
use Rattle.std.proofs.lemmas.List.Sums.{sum_by_more, sum_by-drop_more}
use Rattle.bound_specs.specs.declared.Cell.{Cell}
use Rattle.bound_specs.specs.Cells.{cells_of, cell_count}
use Rattle.cell_splitting.specs.Even.{halved}
use Rattle.cell_splitting.proofs.even.count_splittable.Goals as goal

module _ (cells : List (List Cell)) (p : ℕ) (lt : p < length cells) where
  -- the cells of one more point, halved
  more_halved : cell_count (take (p + 1) (map halved cells)) ≡ cell_count (take p (map halved cells)) + length (halved (cells_of cells p))
  more_halved =
      let n : p < length (map halved cells) = omega (arith, lt, length-map cells halved) in
      sum_by_more length (map halved cells) p [] n
      ∙ ap (λ (cs : List Cell). cell_count (take p (map halved cells)) + length cs) (get_or-map halved cells p [] [] lt)

  more : cell_count (take (p + 1) cells) ≡ cell_count (take p cells) + length (cells_of cells p)
  more = sum_by_more length cells p [] lt

  fewer : cell_count (drop p cells) ≡ length (cells_of cells p) + cell_count (drop (p + 1) cells)
  fewer = sum_by-drop_more length cells p [] lt

pub overflow_sub-single : goal.overflow_sub-single
overflow_sub-single c =
    let lt : c.loop-point.point < length c.args.cells.now = omega (arith, c.loop-point-test.true, c.points-point-end.ensures) in
    omega (arith, c.loop-point.invariant.rest, fewer c.args.cells.now c.loop-point.point lt, c.count_of_point-single.ensures.few)

pub loop-point-preserved : goal.loop-point-preserved
loop-point-preserved c =
    let lt : c.loop-point.point < length c.args.cells.now = omega (arith, c.loop-point-test.true, c.points-point-end.ensures) in
    let cells = c.args.cells.now in
    let p = c.loop-point.point in
    let i = c.loop-point.invariant in
    let e = c.count_of_point-single.ensures in
    record {
      value = omega (arith, i.value, i.rest, fewer cells p lt, e.few, e.value, more_halved cells p lt, more cells p lt);
      rest = omega (arith, i.rest, fewer cells p lt, e.few);
      few = omega (arith, i.few);
    }

pub overflow_sub-result : goal.overflow_sub-result
overflow_sub-result c = c.loop-point.invariant.few

pub returns : goal.returns
returns c =
    let cells = c.args.cells.now in
    let p = c.loop-point.point in
    let end : length cells ≤ p = omega (arith, c.loop-point-test.false, c.points-point-end.ensures) in
    let far : length (map halved cells) ≤ p = omega (arith, end, length-map cells halved) in
    omega (arith, c.loop-point.invariant.value, c.loop-point.invariant.few, c.count-all.ensures, ap cell_count (take_all p cells end), ap cell_count (take_all p (map halved cells) far))
