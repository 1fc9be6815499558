use Rattle.std.proofs.Common.{◌*◌, None, length}
use Rattle.potential_table.specs.Filling.{sum_found}
use Rattle.potential_table.specs.Ways.{by_way, IsLesserOf}
use Rattle.potential_table.proofs.least.least_by_ways.Given as goal

-- the least over the ways of the groups so far
abbrev pub invariant-loop-b : goal.invariant-loop-b
invariant-loop-b g l = IsLesserOf (by_way (g.K.CellCost.low_cost l.cost) l.i l.cell l.ways) (length l.ways) None (8 * l.b) (length l.ways) (sum_found l.least)
