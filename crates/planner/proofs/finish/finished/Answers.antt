use Rattle.std.proofs.Common.{◌≡◌, ◌+◌, sym, subst, arith, inl, inr, length}
use Rattle.planner.specs.Works.{AreSplit}
use Rattle.planner.proofs.WorkLemmas.{met_rises}
use Rattle.planner.proofs.finish.finished.Goals as goal
use Rattle.planner.proofs.finish.finished.Goals.{then-not-is_met+in_ok-split_rest, else-not-is_met}

pub find_prices-requires-clause-points : goal.find_prices-requires-clause-points
find_prices-requires-clause-points g c = elim c.if-not-is_met.branch [
  | then-not-is_met+in_ok-split_rest w ↦ subst (λ cells. length cells ≡ length c.args.rules.now.steps + 1) (sym w.cells-is)
      (c.further_splits.ensures c.args.goal.splits c.args.work.cells w.split_rest.new.cells c.requires.cells w.in_ok-split_rest.ensures.come
      (omega (arith, w.in_ok-split_rest.ensures.most, w.splits_left-left.ensures))).points
  | else-not-is_met w ↦ subst (λ cells. length cells ≡ length c.args.rules.now.steps + 1) (sym w.cells-is) c.requires.cells.points
]

pub find_prices-requires-clause-start : goal.find_prices-requires-clause-start
find_prices-requires-clause-start g c = elim c.if-not-is_met.branch [
  | then-not-is_met+in_ok-split_rest w ↦ rw w.cells-is
      (c.further_splits.ensures c.args.goal.splits c.args.work.cells w.split_rest.new.cells c.requires.cells w.in_ok-split_rest.ensures.come
      (omega (arith, w.in_ok-split_rest.ensures.most, w.splits_left-left.ensures))).start
  | else-not-is_met w ↦ rw w.cells-is c.requires.cells.start
]

pub returns-clause-cells : goal.returns-clause-cells
returns-clause-cells g c = elim c.if-not-is_met.branch [
  | then-not-is_met+in_ok-split_rest w ↦ subst (AreSplit c.args.rules.now c.args.goal.splits) (sym w.cells-is)
      (c.further_splits.ensures c.args.goal.splits c.args.work.cells w.split_rest.new.cells c.requires.cells w.in_ok-split_rest.ensures.come
      (omega (arith, w.in_ok-split_rest.ensures.most, w.splits_left-left.ensures)))
  | else-not-is_met w ↦ subst (AreSplit c.args.rules.now c.args.goal.splits) (sym w.cells-is) c.requires.cells
]

pub returns-clause-spent : goal.returns-clause-spent
returns-clause-spent g c unmet = elim c.if-not-is_met.branch [
  | then-not-is_met+in_ok-split_rest w ↦ rw w.cells-is (elim w.in_ok-split_rest.ensures.spent [
    | inl spent ↦ inl (omega (arith, spent, w.splits_left-left.ensures))
    | inr single ↦ inr single
  ])
  | else-not-is_met w ↦ absurd (unmet (met_rises c.args.goal.energy c.args.goal.tolerance c.args.work.valued.value c.in_ok-valued.valued.value (c.is_met.ensures.0 w.if-not-is_met.false)
      (c.in_ok-valued.ensures.no_less c.args.work.valued.value (rw w.cells-is c.requires.valued.value))))
]
