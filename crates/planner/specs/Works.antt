-- Cells that a search for a bound works on.
use Rattle.std.specs.Prelude.{ℕ, ◌+◌, ◌≤◌, ◌≡◌, ℤ, List, Option, Some, None, length, map, zip, ⊤}
use Rattle.bound_specs.specs.declared.Cell.{Cell}
use Rattle.rail_specs.specs.Rules.{Rules}
use Rattle.rail_specs.specs.Ranges.{AreRanges, no_narrowing}
use Rattle.rail_specs.specs.Cost.{GapMet}
use Rattle.bound_specs.specs.Cells.{cells_of, cell_count, whole_cell, CellsFit}
use Rattle.cell_splitting.specs.Splits.{ComeBySplits}
use Rattle.cell_splitting.specs.Even.{AreEven}

-- one cell for each point, over the exact range of speeds there
pub record AreWhole (r : Rules) (whole : List (List Cell)) : Type 0 where
  pub least : List ℕ
  pub greatest : List ℕ
  pub ranges : AreRanges r no_narrowing least greatest
  pub value : whole ≡ map whole_cell (zip least greatest)

-- cells that come by splits from the even cells for a budget of splits, within that budget
pub record AreSplit (r : Rules) (budget : ℕ) (cells : List (List Cell)) : Type 0 where
  pub whole : List (List Cell)
  pub even : List (List Cell)
  pub times : ℕ
  pub are_whole : AreWhole r whole
  pub are_even : AreEven whole budget even times
  pub halved : ComeBySplits whole even
  pub split : ComeBySplits even cells
  pub within : cell_count cells ≤ length r.steps + 1 + budget
  pub fit : CellsFit r cells
  pub points : length cells ≡ length r.steps + 1
  pub start : length (cells_of cells 0) ≡ 1

-- the gap from an energy to a chain value is met; none, where there is no chain, stands above every number
abbrev pub IsMet : ℤ → ℕ → Option ℤ → Type 0
IsMet energy tolerance (Some value) = GapMet energy value tolerance
IsMet energy tolerance None = ⊤
