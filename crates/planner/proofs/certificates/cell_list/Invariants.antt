use Rattle.std.proofs.Common.{◌≡◌, ◌<◌, ◌≤◌, ◌^◌, ℕ, length}
use Rattle.std.specs.Prelude.{IfSome, slice_index_or}
use Rattle.std.specs.Int.RustNames.{unsigned_abs}
use Rattle.bound_specs.specs.Cells.{cell_at}
use Rattle.bound_specs.specs.Chains.{value_at}
use Rattle.dual_certificate.specs.Contents.{no_cert_cell}
use Rattle.planner.proofs.certificates.cell_list.Given as goal

abbrev pub invariant-loop-c : goal.invariant-loop-c
invariant-loop-c l = record {
  count : length l.list ≡ l.c;
  first : (c : ℕ) → c < length l.list → (slice_index_or l.list c no_cert_cell).first ≡ (cell_at l.cells l.k c).first;
  potential : (c : ℕ) → c < length l.list → (slice_index_or l.list c no_cert_cell).potential ≡ value_at l.potentials l.k c;
  small : (c : ℕ) → c < length l.list → IfSome (slice_index_or l.list c no_cert_cell).potential (λ p. unsigned_abs p ≤ 2 ^ 98);
}
