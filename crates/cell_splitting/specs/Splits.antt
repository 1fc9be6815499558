-- Cells that come from others by splits, one after the other, each at the middle of a cell.
use Rattle.std.specs.Prelude.{ℕ, ◌+◌, ◌<◌, ◌≡◌, List, length, slice_set}
use Rattle.bound_specs.specs.declared.Cell.{Cell}
use Rattle.bound_specs.specs.Cells.{cells_of, cell_at, cell_count, split_cells, IsInside}
use Rattle.speed_cells.specs.Laws.{CanSplit}

-- cells come from others by splits. Each split adds one cell, so that there are as many splits as cells were added
pub data ComeBySplits (whole : List (List Cell)) : List (List Cell) → Type 0 where
  unsplit : (cells : List (List Cell)) → cells ≡ whole → ComeBySplits whole cells
  split : (cells next : List (List Cell)) (k c : ℕ) → ComeBySplits whole cells → k < length cells → CanSplit (cells_of cells k) c
      → next ≡ slice_set cells k (split_cells (cells_of cells k) c) → ComeBySplits whole next

-- each of the finer cells lies inside one of the coarser cells of its point
pub record LieInside (fine coarse : List (List Cell)) : Type 0 where
  pub points : length fine ≡ length coarse
  pub inside : (k c : ℕ) → k < length fine → c < length (cells_of fine k)
      → (d : ℕ) × (d < length (cells_of coarse k)) × IsInside (cell_at fine k c) (cell_at coarse k d)

-- cell c of point k was split, and all else stays
pub record IsSplitAt (cells next : List (List Cell)) (k c : ℕ) : Type 0 where
  pub two : CanSplit (cells_of cells k) c
  pub split : next ≡ slice_set cells k (split_cells (cells_of cells k) c)
  pub count : cell_count next ≡ cell_count cells + 1

-- cell c of point k has one speed, and nothing has changed
pub record IsSingleAt (cells next : List (List Cell)) (k c : ℕ) : Type 0 where
  pub one : (cell_at cells k c).first ≡ (cell_at cells k c).last
  pub same : next ≡ cells
