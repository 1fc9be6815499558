-- What the laws of cells speak of.
use Rattle.std.specs.Prelude.{ℕ, ◌<◌, ◌+◌, ◌≡◌, List, length, slice_index, slice_index_or}
use Rattle.bound_specs.specs.declared.Cell.{Cell}
use Rattle.bound_specs.specs.Cells.{no_cell}
use Rattle.rail_specs.specs.Rules.{Rules}

-- cell c is one of these cells and has two or more speeds
abbrev pub CanSplit : List Cell → ℕ → Type 0
CanSplit cs c = (c < length cs) × ((slice_index_or cs c no_cell).first < (slice_index_or cs c no_cell).last)

-- one pair for each point: the speeds that two lists have there
pub record ArePairs (r : Rules) (least greatest : List ℕ) (pairs : List (ℕ × ℕ)) : Type 0 where
  pub count : length pairs ≡ length r.steps + 1
  pub first : (k : ℕ) → k < length pairs → (slice_index_or pairs k (0, 0)).0 ≡ slice_index least k
  pub last : (k : ℕ) → k < length pairs → (slice_index_or pairs k (0, 0)).1 ≡ slice_index greatest k
