use Rattle.price_rounds.specs.Rounds.{IsValued}
use Rattle.planner.specs.Works.{AreSplit}
use Rattle.planner.proofs.refine.refined.Given as goal

abbrev pub invariant-loop : goal.invariant-loop
invariant-loop g l = record {
  cells : AreSplit l.rules l.goal.splits l.work.cells;
  valued : IsValued (g.C.StepCost.cost l.cost) l.rules l.work.cells l.work.valued;
}
