-- Which drive a run may choose.
use Rattle.std.specs.Int.RustNames.{unsigned_abs}
use Rattle.std.specs.Prelude.{ℕ, ◌^◌, ◌<◌, ◌≤◌, ◌≡◌, ℤ, List, length, slice_index, slice_index_or}
use Rattle.rail_specs.specs.Rules.{Rules, NoDrive}
use Rattle.rail_specs.specs.Cost.{cost_of}
use Rattle.phase_composer.specs.Best.{IsBestOfFamily, IsLate}
use Rattle.proposers.specs.States.{State, Improves, no_state}
use Rattle.drive_choice.specs.declared.choice.Chosen.{Chosen}
use Rattle.drive_choice.specs.declared.choice.Choice.{Choice}
use Rattle.drive_choice.specs.declared.choice.Choice.TheVariants.{NoDrive as ChoiceNoDrive, Late as ChoiceLate, Drive as ChoiceDrive}

-- the drive is on time, and costs at most each member of the family of composed drives that is on time; there is one price for each timing
-- point, each in range
pub record IsChosen (cost : ℤ → ℤ) (r : Rules) (c : Chosen) : Type 0 where
  pub best : IsBestOfFamily cost r c.drive
  pub costs : c.cost ≡ cost_of cost r c.drive
  pub small : unsigned_abs c.cost ≤ 2 ^ 74
  pub count : length c.prices.items ≡ length r.timings
  pub low : (j : ℕ) → slice_index c.prices.items j ≤ 2 ^ 50

-- no drive exactly where there is none, late exactly where none is on time, and else one that is on time
abbrev pub IsChoice : (ℤ → ℤ) → Rules → Choice → Type 0
IsChoice cost r ChoiceNoDrive = NoDrive r
IsChoice cost r (ChoiceLate timing arrival) = IsLate r timing arrival
IsChoice cost r (ChoiceDrive c) = IsChosen cost r c

-- so many boxes were begun and asked for their drives, each place by place, where there is a drive; and else none of them was
abbrev pub AreAsked : (ℤ → ℤ) → Rules → ℕ → List State → List State → Choice → Type 0
AreAsked cost r boxes before now ChoiceNoDrive = now ≡ before
AreAsked cost r boxes before now (ChoiceLate timing arrival) = now ≡ before
AreAsked cost r boxes before now (ChoiceDrive c) =
    (k : ℕ) → k < boxes → Improves cost r c.drive (slice_index_or before k no_state) (slice_index_or now k no_state)
