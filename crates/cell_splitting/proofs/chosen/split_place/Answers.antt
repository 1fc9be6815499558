use Rattle.std.proofs.Common.{subst, sym, refl, arith}
use Rattle.std.proofs.lemmas.Bool.{false≢true}
use Rattle.cell_splitting.specs.Splits.{ComeBySplits}
use Rattle.cell_splitting.proofs.SplitLemmas.{unsplit_cells, split_comes}
use Rattle.cell_splitting.specs.Chosen.{split, passed}
use Rattle.cell_splitting.proofs.chosen.split_place.Goals as goal
use Rattle.cell_splitting.proofs.chosen.split_place.Goals.{then-point-last-via-then-point-last, then-point-last-via-else-point-last+then-not-has_cell}

pub returns-then-point-last-clause-come : goal.returns-then-point-last-clause-come
returns-then-point-last-clause-come c = unsplit_cells c.args.cells.now

pub returns-then-branch-clause-come : goal.returns-then-branch-clause-come
returns-then-branch-clause-come c =
    let h = rw c.if-branch.true at (c.in_ok-split_if_two.ensures) in
    split_comes c.args.cells.now c.split_if_two.new.cells c.args.point c.args.cell ((c.if-not-has_cell.ensures).0 refl).0 h c.args.cells.now (unsplit_cells c.args.cells.now)

pub returns-else-branch-clause-come : goal.returns-else-branch-clause-come
returns-else-branch-clause-come c =
    let h = rw c.if-branch.false at (c.in_ok-split_if_two.ensures) in
    subst (ComeBySplits c.args.cells.now) (sym h.same) (unsplit_cells c.args.cells.now)

pub returns-then-point-last-clause-tried : goal.returns-then-point-last-clause-tried
returns-then-point-last-clause-tried c = passed 0 refl refl (λ may. elim c.then-point-last.branch [
  | then-point-last-via-then-point-last w ↦ omega (arith, w.if-point-last.true, may.0)
  | then-point-last-via-else-point-last+then-not-has_cell w ↦ false≢true (w.if-not-has_cell.ensures.1 (may.1, may.2.0))
])

pub returns-then-branch-clause-tried : goal.returns-then-branch-clause-tried
returns-then-branch-clause-tried c =
    let h = rw c.if-branch.true at (c.in_ok-split_if_two.ensures) in
    split 1 refl (omega (arith, c.if-point-last.false)) ((c.if-not-has_cell.ensures).0 refl).0 h

pub returns-else-branch-clause-tried : goal.returns-else-branch-clause-tried
returns-else-branch-clause-tried c =
    let h = rw c.if-branch.false at (c.in_ok-split_if_two.ensures) in
    passed 0 refl h.same (λ may. omega (arith, may.2.1, h.one))
