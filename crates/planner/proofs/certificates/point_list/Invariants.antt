use Rattle.std.proofs.Common.{◌≡◌, ◌<◌, ◌≤◌, ℕ, length}
use Rattle.std.specs.Prelude.{slice_index, slice_index_or}
use Rattle.bound_specs.specs.Cells.{cells_of}
use Rattle.bound_specs.specs.Chains.{values_of}
use Rattle.dual_certificate.specs.Contents.{no_point, point_cells, point_values}
use Rattle.dual_certificate.specs.Text.{IsPoint}
use Rattle.planner.proofs.certificates.point_list.Given as goal

abbrev pub invariant-loop-k : goal.invariant-loop-k
invariant-loop-k l = record {
  count : length l.list ≡ l.k;
  speed : (k : ℕ) → k < length l.list → (slice_index_or l.list k no_point).speed ≡ slice_index l.speeds k;
  cells : (k : ℕ) → k < length l.list → point_cells (slice_index_or l.list k no_point) ≡ cells_of l.cells k;
  values : (k : ℕ) → k < length l.list → point_values (slice_index_or l.list k no_point) ≡ values_of l.potentials k;
  in_range : (k : ℕ) → k < length l.list → slice_index l.speeds k ≤ 12000 → IsPoint (slice_index_or l.list k no_point);
}
