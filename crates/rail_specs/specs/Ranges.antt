-- The exact ranges of speeds that drives have: the greatest and the least drive, under a narrowing.
use Rattle.std.specs.Prelude.{ℕ, ◌≤◌, List, slice_index}
use Rattle.rail_specs.specs.declared.Narrow.{Narrow}
use Rattle.rail_specs.specs.Rules.{Rules, IsNarrowDrive}

-- the narrowing that every drive keeps: the greatest of all speeds as cap, and no step without traction
abbrev pub no_narrowing : Narrow
no_narrowing = record { cap = 12000; idle_from = 0; idle_to = 0 }

-- there is no drive under the narrowing
abbrev pub NoNarrowDrive : Rules → Narrow → Type 0
NoNarrowDrive r n = (speeds : List ℕ) → IsNarrowDrive r n speeds → ⊥

-- a drive under the narrowing than which no drive under it is faster at any point
pub record IsGreatestNarrowDrive (r : Rules) (n : Narrow) (speeds : List ℕ) : Type 0 where
  pub drive : IsNarrowDrive r n speeds
  pub above : (d : List ℕ) → IsNarrowDrive r n d → (k : ℕ) → slice_index d k ≤ slice_index speeds k

-- a drive under the narrowing than which no drive under it is slower at any point
pub record IsLeastNarrowDrive (r : Rules) (n : Narrow) (speeds : List ℕ) : Type 0 where
  pub drive : IsNarrowDrive r n speeds
  pub below : (d : List ℕ) → IsNarrowDrive r n d → (k : ℕ) → slice_index speeds k ≤ slice_index d k

-- at each point the least and the greatest speed that drives under the narrowing have there, both lists being such drives
pub record AreRanges (r : Rules) (n : Narrow) (low high : List ℕ) : Type 0 where
  pub least : IsLeastNarrowDrive r n low
  pub greatest : IsGreatestNarrowDrive r n high
