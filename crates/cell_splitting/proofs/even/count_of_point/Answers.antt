use Rattle.std.proofs.Common.{◌<◌, arith, ap, length}
use Rattle.bound_specs.specs.declared.Cell.{Cell}
use Rattle.bound_specs.specs.Cells.{cells_of}
use Rattle.cell_splitting.proofs.Halving.{count-two, count-one}
use Rattle.cell_splitting.proofs.even.count_of_point.Goals as goal
use Rattle.cell_splitting.proofs.even.count_of_point.Goals.{then-speeds, else-speeds}

pub loop-cell-preserved : goal.loop-cell-preserved
loop-cell-preserved c =
    let cs = cells_of c.args.cells.now c.args.point in
    let lt : c.loop-cell.cell < length cs = omega (arith, c.loop-cell-test.true, c.of-cell-end.ensures.value) in
    let first = ap (λ (a : Cell). a.first) c.cell-speeds.ensures.value in
    let last = ap (λ (a : Cell). a.last) c.cell-speeds.ensures.value in
    elim c.if-speeds.branch [
      | then-speeds w ↦ record {
        value = omega (arith, c.loop-cell.invariant.value, w.count-is, count-two cs c.loop-cell.cell lt (omega (arith, w.if-speeds.true, first, last)));
        few = omega (arith, c.loop-cell.invariant.few, w.count-is);
      }
      | else-speeds w ↦ record {
        value = omega (arith, c.loop-cell.invariant.value, w.count-is, count-one cs c.loop-cell.cell lt (omega (arith, w.if-speeds.false, first, last)));
        few = omega (arith, c.loop-cell.invariant.few, w.count-is);
      }
    ]
