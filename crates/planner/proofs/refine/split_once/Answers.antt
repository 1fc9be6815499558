use Rattle.std.proofs.Common.{◌∙◌, sym, arith}
use Rattle.planner.proofs.refine.split_once.Goals as goal

pub renewed-requires-clause-points : goal.renewed-requires-clause-points
renewed-requires-clause-points g c =
    (c.further_splits.ensures c.args.goal.splits c.args.work.cells c.split_chosen.new.cells c.requires.cells c.in_ok-split_chosen.ensures.come
    (omega (arith, c.in_ok-split_chosen.ensures.most, c.splits_left-left.ensures))).points

pub renewed-requires-clause-start : goal.renewed-requires-clause-start
renewed-requires-clause-start g c =
    (c.further_splits.ensures c.args.goal.splits c.args.work.cells c.split_chosen.new.cells c.requires.cells c.in_ok-split_chosen.ensures.come
    (omega (arith, c.in_ok-split_chosen.ensures.most, c.splits_left-left.ensures))).start

pub renewed-requires-clause-last : goal.renewed-requires-clause-last
renewed-requires-clause-last g c =
    let split = c.further_splits.ensures c.args.goal.splits c.args.work.cells c.split_chosen.new.cells c.requires.cells c.in_ok-split_chosen.ensures.come
    (omega (arith, c.in_ok-split_chosen.ensures.most, c.splits_left-left.ensures)) in
    omega (arith, c.in_ok-choice.ensures, split.points, c.requires.cells.points)

pub renewed-requires-clause-before : goal.renewed-requires-clause-before
renewed-requires-clause-before g c =
    let split = c.further_splits.ensures c.args.goal.splits c.args.work.cells c.split_chosen.new.cells c.requires.cells c.in_ok-split_chosen.ensures.come
    (omega (arith, c.in_ok-split_chosen.ensures.most, c.splits_left-left.ensures)) in (
      c.args.work.cells,
      (c.requires.cells.points ∙ sym split.points, λ j le. sym (c.in_ok-split_chosen.ensures.behind j (omega (arith, le)))),
      c.requires.valued,
    )

pub returns-clause-cells : goal.returns-clause-cells
returns-clause-cells g c =
    c.further_splits.ensures c.args.goal.splits c.args.work.cells c.split_chosen.new.cells c.requires.cells c.in_ok-split_chosen.ensures.come
    (omega (arith, c.in_ok-split_chosen.ensures.most, c.splits_left-left.ensures))
