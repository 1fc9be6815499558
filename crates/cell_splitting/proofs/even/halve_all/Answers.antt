use Rattle.std.proofs.Common.{ℕ, ◌≡◌, ◌<◌, ◌∙◌, List, [], length, map, take, drop, get_or, ap, refl, arith, length-append, length-take, length-drop}
use Rattle.std.proofs.lemmas.List.{length-map, get_or_default}
use Rattle.std.proofs.lemmas.List.Edits.{map_over_more}
use Rattle.bound_specs.specs.declared.Cell.{Cell}
use Rattle.bound_specs.specs.Cells.{cells_of}
use Rattle.cell_splitting.specs.Even.{halved}
use Rattle.cell_splitting.proofs.SplitLemmas.{unsplit_cells, follow}
use Rattle.cell_splitting.proofs.even.halve_all.Goals as goal

-- a point's cells, whatever stands past the last one
same_cells : (cells : List (List Cell)) (k : ℕ) → k < length cells → cells_of cells k ≡ get_or cells k (cells_of cells k)
same_cells cells k lt = get_or_default cells k [] (cells_of cells k) lt

pub loop-point-init : goal.loop-point-init
loop-point-init c = record { come = unsplit_cells c.args.cells.now; value = refl }

pub loop-point-preserved : goal.loop-point-preserved
loop-point-preserved c =
    let lt : c.loop-point.point < length c.args.cells.now = omega (arith, c.loop-point-test.true, c.points-point-end.ensures) in
    let i = c.loop-point.invariant in
    let e = c.in_ok-halve_point.ensures in
    record {
      come = follow c.args.cells.now i.come e.come;
      value = e.value ∙ map_over_more halved c.args.cells.now c.loop-point.cells c.loop-point.point (cells_of c.loop-point.cells c.loop-point.point) lt i.value (same_cells c.loop-point.cells c.loop-point.point (omega (arith, lt, ap length i.value, length-append (map halved (take c.loop-point.point c.args.cells.now)) (drop c.loop-point.point c.args.cells.now), length-map (take c.loop-point.point c.args.cells.now) halved, length-take c.loop-point.point c.args.cells.now, length-drop c.loop-point.point c.args.cells.now)));
    }
