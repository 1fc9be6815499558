use Rattle.std.proofs.Common.{ℕ, ◌≡◌, ◌+◌}
use Rattle.bound_specs.specs.Chains.{IsAtMost}
use Rattle.bound_specs.specs.ChainValues.{IsBestPrice}
use Rattle.price_rounds.specs.Rounds.{pricing, IsValued}
use Rattle.price_rounds.proofs.rounds.gone_once.Given as goal

abbrev pub invariant-loop-timing : goal.invariant-loop-timing
invariant-loop-timing g l = record {
  valued : IsValued (g.C.StepCost.cost l.cost) l.rules l.cells l.best;
  no_less : IsAtMost l.initial.best.value l.best.value;
  best : (j : ℕ) → j + 1 ≡ l.timing → IsBestPrice (pricing (g.C.StepCost.cost l.cost) l.rules l.best.prices) l.cells j;
}
