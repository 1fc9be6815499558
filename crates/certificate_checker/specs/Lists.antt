-- The cells of a point as a list.
use Rattle.std.specs.Prelude.{ℕ, ◌<◌, ◌≡◌, List, length, slice_index_or}
use Rattle.bound_specs.specs.declared.Cell.{Cell}
use Rattle.bound_specs.specs.Cells.{no_cell}
use Rattle.dual_certificate.specs.declared.certificate.CertPoint.{CertPoint}
use Rattle.dual_certificate.specs.Contents.{cell_of}

-- these are the cells of a point, in their order
pub record AreCellsOf (p : CertPoint) (cells : List Cell) : Type 0 where
  pub count : length cells ≡ length p.cells
  pub each : (a : ℕ) → a < length cells → slice_index_or cells a no_cell ≡ cell_of p a
