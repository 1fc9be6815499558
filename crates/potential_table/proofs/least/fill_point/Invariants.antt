use Rattle.std.proofs.Common.{ℕ, ◌≡◌, ◌+◌, ◌<◌, ◌≤◌, length, get_or}
use Rattle.bound_specs.specs.Cells.{no_cell}
use Rattle.potential_table.specs.Filling.{value_in, value_from, IsLeastOf}
use Rattle.potential_table.specs.Ways.{by_way}
use Rattle.potential_table.proofs.least.fill_point.Given as goal

-- the values of the cells so far are found, and no other is changed
abbrev pub invariant-loop-a : goal.invariant-loop-a
invariant-loop-a g l = record {
  filled : (a : ℕ) → a < l.a
      → IsLeastOf (by_way (g.K.CellCost.low_cost l.cost) l.i (get_or l.left a no_cell) l.ways) (length l.ways) (value_from l.values l.start a);
  before : (j : ℕ) → j < l.start → value_in l.values j ≡ value_in l.fn.values j;
  behind : (j : ℕ) → l.start + l.a ≤ j → value_in l.values j ≡ value_in l.fn.values j;
}
