use Rattle.std.proofs.Common.{ℕ, ◌<◌}
use Rattle.bound_specs.specs.Cells.{cell_at, HasSpeed}
use Rattle.speed_cells.proofs.cells.Cells.cell_of.Given as goal

abbrev pub invariant-loop-c : goal.invariant-loop-c
invariant-loop-c l = (c : ℕ) → c < l.c → HasSpeed (cell_at l.self l.point c) l.v → ⊥
