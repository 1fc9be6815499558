-- Even cells: all cells halved, as many times as half of a budget of splits allows.
use Rattle.std.specs.Prelude.{ℕ, zero, suc, ◌+◌, ◌/◌, ◌≤◌, ◌≡◌, List, [], ◌∷◌, length, map, if◌then◌else◌, nat_lt}
use Rattle.bound_specs.specs.declared.Cell.{Cell}
use Rattle.bound_specs.specs.Cells.{lower_half, upper_half, cell_count}

-- the cells of a point, each of two or more speeds split once at its middle
abbrev pub halved : List Cell → List Cell
halved [] = []
halved (a ∷ cs) = if nat_lt a.first a.last then lower_half a ∷ upper_half a ∷ halved cs else a ∷ halved cs

-- the cells of all points, halved so many times
abbrev pub halvings : ℕ → List (List Cell) → List (List Cell)
halvings zero cells = cells
halvings (suc k) cells = map halved (halvings k cells)

-- the even cells for a budget of splits: one cell for each point, halved as many times, up to fourteen, as leaves at most half of the
-- budget more cells than points. Fourteen halvings leave only cells of one speed
pub record AreEven (whole : List (List Cell)) (budget : ℕ) (cells : List (List Cell)) (times : ℕ) : Type 0 where
  pub few : times ≤ 14
  pub value : cells ≡ halvings times whole
  pub within : cell_count cells ≤ length whole + budget / 2
  pub most : (k : ℕ) → k ≤ 14 → cell_count (halvings k whole) ≤ length whole + budget / 2 → k ≤ times
