use Rattle.std.proofs.Common.{◌≤◌, ◌-◌, ◌^◌}
use Rattle.potential_table.specs.Searching.{IsSmallerBelow, IsNoGreaterFrom}
use Rattle.potential_table.proofs.price_search.sought.Given as goal

abbrev pub decreases-loop-low : goal.decreases-loop-low
decreases-loop-low g l = l.high - l.low

-- the price that is sought lies between the two
abbrev pub invariant-loop-low : goal.invariant-loop-low
invariant-loop-low g l = record {
  in_order : l.low ≤ l.high;
  most : l.high ≤ 2 ^ 50;
  below : IsSmallerBelow (record { cost = g.C.StepCost.cost l.cost; rules = l.rules; prices = l.prices }) l.cells l.timing l.low;
  above : IsNoGreaterFrom (record { cost = g.C.StepCost.cost l.cost; rules = l.rules; prices = l.prices }) l.cells l.timing l.high;
}
