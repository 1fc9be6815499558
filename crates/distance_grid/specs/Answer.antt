-- What making a grid answers.
use Rattle.std.specs.Prelude.{ℕ, ◌<◌, ◌≤◌, List, length, Result, Ok, Err}
use Rattle.rail_specs.specs.Grid.{IsGrid}
use Rattle.distance_grid.specs.declared.fault.GridFault.{GridFault}
use Rattle.distance_grid.specs.declared.fault.GridFault.TheVariants.{BadSpan, TooManySteps, NoMemory}

-- the end is above the start, and the grid has no more than 4,001 places
pub record IsShortGrid (marks : List ℕ) (step from to : ℕ) (places : List ℕ) : Type 0 where
  pub span : from < to
  pub grid : IsGrid marks step from to places
  pub few : length places ≤ 4001

-- the end is above the start, and whatever lists the places has more than 4,001
pub record IsLongGrid (marks : List ℕ) (step from to : ℕ) : Type 0 where
  pub span : from < to
  pub many : (places : List ℕ) → IsGrid marks step from to places → 4001 < length places

-- a grid of at most 4,000 steps, or why there is none; memory may run out
abbrev pub Answers : List ℕ → ℕ → ℕ → ℕ → Result (List ℕ) GridFault → Type 0
Answers marks step from to (Ok places) = IsShortGrid marks step from to places
Answers marks step from to (Err BadSpan) = to ≤ from
Answers marks step from to (Err TooManySteps) = IsLongGrid marks step from to
Answers marks step from to (Err NoMemory) = from < to
