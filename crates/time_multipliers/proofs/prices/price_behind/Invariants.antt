use Rattle.std.proofs.Common.{◌≡◌, ◌≤◌, ◌*◌, ◌^◌}
use Rattle.bound_specs.specs.Prices.{charge}
use Rattle.rail_specs.specs.Times.{sum_below}
use Rattle.time_multipliers.proofs.prices.price_behind.Given as goal

abbrev pub invariant-loop-j : goal.invariant-loop-j
invariant-loop-j l = record {
  value : l.price ≡ sum_below (λ j. charge (record { points = l.points; values = l.values }) j l.i) l.j;
  small : l.price ≤ l.j * 2 ^ 50;
}
