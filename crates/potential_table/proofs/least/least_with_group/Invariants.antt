use Rattle.std.proofs.Common.{length}
use Rattle.potential_table.specs.Filling.{sum_found}
use Rattle.potential_table.specs.Ways.{by_way, IsLesserOf}
use Rattle.potential_table.proofs.least.least_with_group.Given as goal

-- the least over the group's ways so far
abbrev pub invariant-loop-j : goal.invariant-loop-j
invariant-loop-j g l = IsLesserOf (by_way (g.K.CellCost.low_cost l.cost) l.i l.cell l.ways) (length l.ways) (sum_found l.begun) l.start l.j (sum_found l.least)
