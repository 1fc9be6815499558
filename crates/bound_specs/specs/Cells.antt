-- Cells: the speeds at each point, parted into adjacent intervals.
-- What is listed for a point's cells is listed in the order of their speeds, and cells are listed point by point.
use Rattle.std.specs.Prelude.{ℕ, ◌+◌, ◌-◌, ◌/◌, ◌<◌, ◌≤◌, ◌≡◌, List, [], ◌∷◌, ◌++◌, length, take, drop, slice_index, slice_index_or, sum_by, All, ⊤}
use Rattle.bound_specs.specs.declared.Cell.{Cell}
use Rattle.rail_specs.specs.Rules.{Rules, IsDrive}
use Rattle.rail_specs.specs.Ranges.{AreRanges, no_narrowing}

-- what stands past the last cell
abbrev pub no_cell : Cell
no_cell = record { first = 0; last = 0 }

-- the cells of point k
abbrev pub cells_of : List (List Cell) → ℕ → List Cell
cells_of cells k = slice_index_or cells k []

-- cell c of point k
abbrev pub cell_at : List (List Cell) → ℕ → ℕ → Cell
cell_at cells k c = slice_index_or (cells_of cells k) c no_cell

-- a cell is an interval of speeds up to 12,000 cm/s
abbrev pub IsCell : Cell → Type 0
IsCell a = (a.first ≤ a.last) × (a.last ≤ 12000)

-- a cell has the speed v
abbrev pub HasSpeed : Cell → ℕ → Type 0
HasSpeed a v = (a.first ≤ v) × (v ≤ a.last)

-- a cell lies inside another
abbrev pub IsInside : Cell → Cell → Type 0
IsInside a whole = (whole.first ≤ a.first) × (a.last ≤ whole.last)

-- the cell of one speed
abbrev pub single : ℕ → Cell
single v = record { first = v; last = v }

-- some cell of these has the speed v
abbrev pub SomeHasSpeed : List Cell → ℕ → Type 0
SomeHasSpeed cs v = (c : ℕ) × (c < length cs) × HasSpeed (slice_index_or cs c no_cell) v

-- the cells of a point: at least one, and each begins right above the one before
pub record AreAdjacent (cs : List Cell) : Type 0 where
  pub some : 1 ≤ length cs
  pub cells : (c : ℕ) → c < length cs → IsCell (slice_index_or cs c no_cell)
  pub next : (c : ℕ) → c + 1 < length cs → (slice_index_or cs (c + 1) no_cell).first ≡ (slice_index_or cs c no_cell).last + 1

-- the cells of a point have exactly the speeds from the least to the greatest
pub record RunFrom (least greatest : ℕ) (cs : List Cell) : Type 0 where
  pub adjacent : AreAdjacent cs
  pub first : (slice_index_or cs 0 no_cell).first ≡ least
  pub last : (slice_index_or cs (length cs - 1) no_cell).last ≡ greatest

-- the cells fit the rules: at each point they run from the least to the greatest speed that a drive has there
pub record FitBetween (r : Rules) (cells : List (List Cell)) (least greatest : List ℕ) : Type 0 where
  pub ranges : AreRanges r no_narrowing least greatest
  pub points : length cells ≡ length r.steps + 1
  pub run : (k : ℕ) → k ≤ length r.steps → RunFrom (slice_index least k) (slice_index greatest k) (cells_of cells k)

abbrev pub CellsFit : Rules → List (List Cell) → Type 0
CellsFit r cells = (least : List ℕ) × (greatest : List ℕ) × FitBetween r cells least greatest

-- the speeds run through the cells of these points: one speed for each point, in some cell of it
abbrev pub RunInside : List (List Cell) → List ℕ → Type 0
RunInside [] [] = ⊤
RunInside [] (v ∷ speeds) = ⊥
RunInside (cs ∷ cells) [] = ⊥
RunInside (cs ∷ cells) (v ∷ speeds) = SomeHasSpeed cs v × RunInside cells speeds

-- the cells cover the rules: every drive runs through them
abbrev pub CellsCover : Rules → List (List Cell) → Type 0
CellsCover r cells = (speeds : List ℕ) → IsDrive r speeds → RunInside cells speeds

-- how many cells there are at all points
abbrev pub cell_count : List (List Cell) → ℕ
cell_count cells = sum_by length cells

-- each cell has one speed
abbrev pub AreSingle : List (List Cell) → Type 0
AreSingle cells = All (λ cs. All (λ a. a.first ≡ a.last) cs) cells

-- one cell for each point, from its least to its greatest speed
abbrev pub whole_cell : (ℕ × ℕ) → List Cell
whole_cell pair = record { first = pair.0; last = pair.1 } ∷ []

-- where a cell is split: its middle speed is the last of the lower half
abbrev pub middle : Cell → ℕ
middle a = (a.first + a.last) / 2

abbrev pub lower_half : Cell → Cell
lower_half a = record { first = a.first; last = middle a }

abbrev pub upper_half : Cell → Cell
upper_half a = record { first = middle a + 1; last = a.last }

-- the cells of a point, with cell c split into its halves
abbrev pub split_cells : List Cell → ℕ → List Cell
split_cells cs c =
    let a = slice_index_or cs c no_cell in
    take c cs ++ lower_half a ∷ upper_half a ∷ drop (c + 1) cs
