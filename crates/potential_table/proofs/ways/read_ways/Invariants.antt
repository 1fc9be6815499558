use Rattle.potential_table.specs.Filling.{value_from}
use Rattle.potential_table.specs.Ways.{AreWays}
use Rattle.potential_table.proofs.ways.read_ways.Given as goal

-- the ways on from the cells so far
abbrev pub invariant-loop-c : goal.invariant-loop-c
invariant-loop-c l = AreWays l.ways.items l.cells (value_from l.values l.start) l.c
