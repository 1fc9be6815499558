use Rattle.std.proofs.Common.{ℕ, ◌≡◌, ◌≤◌, length}
use Rattle.std.specs.Prelude.{slice_index}
use Rattle.bound_specs.specs.Cells.{cells_of}
use Rattle.potential_table.specs.Filling.{value_in, value_from, AreSmallFrom, IsFilled}
use Rattle.potential_table.specs.Ways.{AreWays}
use Rattle.potential_table.proofs.least.fill.Given as goal

-- the points from point i up to the cost's last one are filled, and the ways on from point i are listed
abbrev pub invariant-loop-i : goal.invariant-loop-i
invariant-loop-i g l = record {
  filled : IsFilled (g.K.CellCost.low_cost l.cost) l.cells l.starts l.values l.i (g.K.CellCost.step_count l.cost);
  small : AreSmallFrom l.starts (length l.cells) l.values l.i;
  kept : (j : ℕ) → slice_index l.starts (g.K.CellCost.step_count l.cost) ≤ j → value_in l.values j ≡ value_in l.fn.values j;
  ways : AreWays l.ways.items (cells_of l.cells l.i) (value_from l.values (slice_index l.starts l.i)) (length (cells_of l.cells l.i));
}
