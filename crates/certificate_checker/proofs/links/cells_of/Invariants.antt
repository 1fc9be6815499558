use Rattle.std.proofs.Common.{ℕ, ◌≡◌, ◌<◌, length}
use Rattle.std.specs.Prelude.{slice_index_or}
use Rattle.bound_specs.specs.Cells.{no_cell}
use Rattle.dual_certificate.specs.Contents.{cell_of}
use Rattle.certificate_checker.proofs.links.cells_of.Given as goal

abbrev pub invariant-loop-c : goal.invariant-loop-c
invariant-loop-c l = record {
  count : length l.cells.items ≡ l.c;
  each : (a : ℕ) → a < length l.cells.items → slice_index_or l.cells.items a no_cell ≡ cell_of l.point a;
}
