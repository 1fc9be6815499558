use Rattle.std.proofs.Common.{◌<◌}
use Rattle.bound_specs.specs.Chains.{IsAtMost}
use Rattle.price_rounds.specs.Rounds.{IsValued, IsLastBest}
use Rattle.price_rounds.proofs.rounds.improve_prices.Given as goal

abbrev pub invariant-loop : goal.invariant-loop
invariant-loop g l = record {
  valued : IsValued (g.C.StepCost.cost l.cost) l.rules l.cells l.best;
  no_less : IsAtMost l.initial.best.value l.best.value;
  last : 0 < l.counter → IsLastBest (g.C.StepCost.cost l.cost) l.rules l.cells l.best.prices l.best.value;
}
