use Rattle.std.proofs.Common.{ℕ, ◌<◌, ◌≡◌, All}
use Rattle.bound_specs.specs.Cells.{cells_of}
use Rattle.bound_specs.specs.declared.Cell.{Cell}
use Rattle.speed_cells.proofs.cells.Cells.all_single.Given as goal

abbrev pub invariant-loop-point : goal.invariant-loop-point
invariant-loop-point l = (k : ℕ) → k < l.point → All (λ (a : Cell). a.first ≡ a.last) (cells_of l.self k)
