-- Cells after the splits that somebody chose.
use Rattle.std.specs.Prelude.{ℕ, ◌+◌, ◌<◌, ◌≤◌, ◌≡◌, List, length, slice_index_or}
use Rattle.bound_specs.specs.declared.Cell.{Cell}
use Rattle.bound_specs.specs.Cells.{cells_of, cell_count}
use Rattle.speed_cells.specs.Laws.{CanSplit}
use Rattle.cell_splitting.specs.declared.chosen.Place.{Place}
use Rattle.cell_splitting.specs.Splits.{IsSplitAt}

-- what stands past the last place
abbrev pub no_place : Place
no_place = record { point = 0; cell = 0 }

-- the place of an index
abbrev pub place_at : List Place → ℕ → Place
place_at places k = slice_index_or places k no_place

-- cell c of point k may be split: the point isn't behind the last, and the cell is there and has two or more speeds
abbrev pub MaySplit : ℕ → List (List Cell) → ℕ → ℕ → Type 0
MaySplit last cells k c = (k ≤ last) × (k < length cells) × CanSplit (cells_of cells k) c

-- cell c of point k was split where it may be, and else nothing has changed. So many cells were split
pub data IsTried (last : ℕ) (cells next : List (List Cell)) (k c : ℕ) : ℕ → Type 0 where
  split : (made : ℕ) → made ≡ 1 → k ≤ last → k < length cells → IsSplitAt cells next k c → IsTried last cells next k c made
  passed : (made : ℕ) → made ≡ 0 → next ≡ cells → (MaySplit last cells k c → ⊥) → IsTried last cells next k c made

-- the first of these places were gone over, one after the other, until as many cells had been split as were allowed
pub data AreTried (places : List Place) (last most : ℕ) (whole : List (List Cell)) : ℕ → List (List Cell) → Type 0 where
  begun : (cells : List (List Cell)) → cells ≡ whole → AreTried places last most whole 0 cells
  tried : (n made : ℕ) (cells next : List (List Cell)) → AreTried places last most whole n cells → cell_count cells < cell_count whole + most
      → IsTried last cells next (place_at places n).point (place_at places n).cell made → AreTried places last most whole (n + 1) next
  spent : (n : ℕ) (cells next : List (List Cell)) → AreTried places last most whole n cells → cell_count cells ≡ cell_count whole + most
      → next ≡ cells → AreTried places last most whole (n + 1) next
