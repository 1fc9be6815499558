-- The cells of all points in one list: what is shown by the first speed of each cell, by where the cells of each point start in that
-- list and where they all end, and by the last speed of each point.
use Rattle.std.specs.Prelude.{ℕ, ◌+◌, ◌-◌, ◌<◌, ◌≤◌, ◌≡◌, List, length, map, slice_index, if◌then◌else◌, nat_lt}
use Rattle.std.specs.List.{range_with_len}
use Rattle.bound_specs.specs.declared.Cell.{Cell}

-- how many cells point k has
abbrev pub count_at : List ℕ → ℕ → ℕ
count_at starts k = slice_index starts (k + 1) - slice_index starts k

-- the first speed of cell c of point k
abbrev pub first_at : List ℕ → List ℕ → ℕ → ℕ → ℕ
first_at starts firsts k c = slice_index firsts (slice_index starts k + c)

-- the least speed above cell c of point k: the next cell's first speed, and above the point's last cell one more than its last speed
abbrev pub above : List ℕ → List ℕ → List ℕ → ℕ → ℕ → ℕ
above starts firsts lasts k c =
    if nat_lt (c + 1) (count_at starts k) then first_at starts firsts k (c + 1) else slice_index lasts k + 1

-- cell c of point k
abbrev pub cell_in : List ℕ → List ℕ → List ℕ → ℕ → ℕ → Cell
cell_in starts firsts lasts k c = record { first = first_at starts firsts k c; last = above starts firsts lasts k c - 1 }

-- the cells of point k
abbrev pub point_in : List ℕ → List ℕ → List ℕ → ℕ → List Cell
point_in starts firsts lasts k = map (cell_in starts firsts lasts k) (range_with_len 0 (count_at starts k))

-- the cells of all points
abbrev pub cells_in : List ℕ → List ℕ → List ℕ → List (List Cell)
cells_in starts firsts lasts = map (point_in starts firsts lasts) (range_with_len 0 (length lasts))

-- the three lists fit together: there is a point, each point has a cell, and within a point speeds rise strictly up to 12,000 cm/s
pub record IsLayout (starts firsts lasts : List ℕ) : Type 0 where
  pub some : 1 ≤ length lasts
  pub count : length starts ≡ length lasts + 1
  pub begin : slice_index starts 0 ≡ 0
  pub end : slice_index starts (length lasts) ≡ length firsts
  pub rise : (k : ℕ) → k < length lasts → slice_index starts k < slice_index starts (k + 1)
  pub speeds : (k c : ℕ) → k < length lasts → c < count_at starts k → first_at starts firsts k c < above starts firsts lasts k c
  pub in_range : (k c : ℕ) → k < length lasts → c < count_at starts k → above starts firsts lasts k c ≤ 12001
