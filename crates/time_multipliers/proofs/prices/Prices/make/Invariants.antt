use Rattle.std.proofs.Common.{◌≡◌, length}
use Rattle.time_multipliers.specs.Steps.{AreKept}
use Rattle.time_multipliers.proofs.prices.Prices.make.Given as goal

abbrev pub invariant-loop-i : goal.invariant-loop-i
invariant-loop-i l = record {
  count : length l.by_step.items ≡ l.i;
  kept : AreKept (record { points = l.points; values = l.values }) l.by_step.items;
}
