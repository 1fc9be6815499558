use Rattle.std.proofs.Common.{ℕ, ◌<◌}
use Rattle.price_rounds.specs.Rounds.{IsValued, BeatsPriceOf}
use Rattle.price_rounds.proofs.rounds.best_alone.Given as goal

abbrev pub invariant-loop-timing : goal.invariant-loop-timing
invariant-loop-timing g l = record {
  valued : IsValued (g.C.StepCost.cost l.cost) l.rules l.cells l.best;
  each : (j : ℕ) → j < l.timing → BeatsPriceOf (g.C.StepCost.cost l.cost) l.rules l.cells j l.best.value;
}
