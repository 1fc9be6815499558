use Rattle.std.proofs.Common.{ℕ, ◌<◌, ◌≡◌}
use Rattle.bound_specs.specs.Cells.{cell_at}
use Rattle.speed_cells.proofs.cells.Cells.is_single.Given as goal

abbrev pub invariant-loop-c : goal.invariant-loop-c
invariant-loop-c l = (c : ℕ) → c < l.c → (cell_at l.self l.point c).first ≡ (cell_at l.self l.point c).last
