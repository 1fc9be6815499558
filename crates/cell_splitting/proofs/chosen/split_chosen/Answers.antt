use Rattle.std.proofs.Common.{◌+◌, ◌∙◌, arith, refl, subst, sym, ap}
use Rattle.std.specs.Prelude.{List}
use Rattle.bound_specs.specs.declared.Cell.{Cell}
use Rattle.bound_specs.specs.Cells.{cells_of, cell_count}
use Rattle.cell_splitting.specs.Splits.{ComeBySplits}
use Rattle.cell_splitting.specs.Chosen.{AreTried, begun, tried, spent}
use Rattle.cell_splitting.proofs.SplitLemmas.{unsplit_cells, follow}
use Rattle.cell_splitting.proofs.chosen.split_chosen.Goals as goal
use Rattle.cell_splitting.proofs.chosen.split_chosen.Goals.{then-left-gt0+in_ok-left, else-left-gt0}

pub loop-place-init : goal.loop-place-init
loop-place-init c = record { come = unsplit_cells c.args.cells.now; count = refl; behind = λ k lt. refl; tried = begun c.args.cells.now refl }

pub loop-place-preserved : goal.loop-place-preserved
loop-place-preserved c =
    let i = c.loop-place.invariant in
    elim c.if-left-gt0.branch [
      | then-left-gt0+in_ok-left w ↦ record {
        come = subst (ComeBySplits c.args.cells.now) (sym w.cells-is) (follow c.args.cells.now i.come w.in_ok-left.ensures.come);
        count = omega (arith, i.count, w.in_ok-left.ensures.count, ap cell_count w.cells-is, w.left-is, w.if-left-gt0.true, w.in_ok-left.ensures.one);
        behind = λ k lt. ap (λ (x : List (List Cell)). cells_of x k) w.cells-is ∙ w.in_ok-left.ensures.behind k lt ∙ i.behind k lt;
        tried = subst (AreTried c.args.places.now c.args.last c.args.most c.args.cells.now (c.loop-place.place-index + 1)) (sym w.cells-is)
            (tried c.loop-place.place-index w.in_ok-left.field-0 c.loop-place.cells w.split_place.new.cells i.tried (omega (arith, i.count, w.if-left-gt0.true)) w.in_ok-left.ensures.tried);
      }
      | else-left-gt0 w ↦ record {
        come = subst (ComeBySplits c.args.cells.now) (sym w.cells-is) i.come;
        count = omega (arith, i.count, ap cell_count w.cells-is, w.left-is);
        behind = λ k lt. ap (λ (x : List (List Cell)). cells_of x k) w.cells-is ∙ i.behind k lt;
        tried = spent c.loop-place.place-index c.loop-place.cells c.if-left-gt0.cells i.tried (omega (arith, i.count, w.if-left-gt0.false)) w.cells-is;
      }
    ]
