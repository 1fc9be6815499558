-- Drives that cost no more than those that they were tried against.
use Rattle.std.specs.Prelude.{ℕ, ◌*◌, ◌≡◌, ◌≤◌, ℤ, ◌≤ℤ◌, List}
use Rattle.rail_specs.specs.declared.Narrow.{Narrow}
use Rattle.rail_specs.specs.Rules.{Rules, timing_at, IsDrive, IsNarrowDrive, IsGreatestDrive, NoDrive}
use Rattle.rail_specs.specs.Ranges.{IsGreatestNarrowDrive}
use Rattle.rail_specs.specs.Times.{IsOnTimeUp, IsFirstLate, NoneOnTime, arrival_up}
use Rattle.rail_specs.specs.Cost.{cost_of}
use Rattle.speed_envelopes.specs.Narrowing.{capped, IsCoasting}
use Rattle.phase_composer.specs.Family.{IsMember}
use Rattle.phase_composer.specs.declared.best.Composed.{Composed}
use Rattle.phase_composer.specs.declared.best.Composed.TheVariants.{NoDrive as ComposedNoDrive, Late as ComposedLate, Best as ComposedBest}
use Rattle.phase_composer.specs.declared.best.Costed.{Costed}
use Rattle.phase_composer.specs.declared.best.Costed.TheVariants.{NoDrive as CostedNoDrive, Late as CostedLate, Best as CostedBest}

-- the greatest drive under the narrowing, which is on time
pub record IsTimely (r : Rules) (n : Narrow) (d : List ℕ) : Type 0 where
  pub greatest : IsGreatestNarrowDrive r n d
  pub on_time : IsOnTimeUp r d

-- no drive under the narrowing is on time
abbrev pub NoneOnTimeUnder : Rules → Narrow → Type 0
NoneOnTimeUnder r n = (d : List ℕ) → IsNarrowDrive r n d → IsOnTimeUp r d → ⊥

-- a drive on time, with its cost
pub record IsKeptDrive (cost : ℤ → ℤ) (r : Rules) (d : List ℕ) (total : ℤ) : Type 0 where
  pub drive : IsDrive r d
  pub on_time : IsOnTimeUp r d
  pub costs : total ≡ cost_of cost r d

-- a cost that is at most that of the greatest drive under the narrowing, where there is one and it is on time
abbrev pub Beats : (ℤ → ℤ) → Rules → Narrow → ℤ → Type 0
Beats cost r n total = (d : List ℕ) → IsGreatestNarrowDrive r n d → IsOnTimeUp r d → total ≤ℤ cost_of cost r d

-- a cost that is at most that of each greatest drive under a cap from `from` tens up
abbrev pub BeatsTens : (ℤ → ℤ) → Rules → ℕ → ℤ → Type 0
BeatsTens cost r from total = (tens : ℕ) → from ≤ tens → tens ≤ 1200 → Beats cost r (capped (10 * tens)) total

-- a cost that is at most that of each greatest drive under the cap that coasts from one of the points of index `from` up
abbrev pub BeatsCoasting : (ℤ → ℤ) → Rules → ℕ → ℕ → ℤ → Type 0
BeatsCoasting cost r cap from total = (k : ℕ) → (n : Narrow) → from ≤ k → k ≤ 63 → IsCoasting r cap k n → Beats cost r n total

-- a drive on time that costs at most each member of the family that is on time
pub record IsBestOfFamily (cost : ℤ → ℤ) (r : Rules) (d : List ℕ) : Type 0 where
  pub drive : IsDrive r d
  pub on_time : IsOnTimeUp r d
  pub best : (m : List ℕ) → IsMember r m → IsOnTimeUp r m → cost_of cost r d ≤ℤ cost_of cost r m

-- every drive is late: the greatest drive is, first at this timing point, which it reaches then
pub record IsLate (r : Rules) (timing arrival : ℕ) : Type 0 where
  pub greatest : (d : List ℕ) × IsGreatestDrive r d × IsFirstLate r d timing × (arrival ≡ arrival_up r d (timing_at r timing).point)
  pub none : NoneOnTime r

-- what the family says of the rules
abbrev pub IsComposed : (ℤ → ℤ) → Rules → Composed → Type 0
IsComposed cost r ComposedNoDrive = NoDrive r
IsComposed cost r (ComposedLate timing arrival) = IsLate r timing arrival
IsComposed cost r (ComposedBest d) = IsBestOfFamily cost r d

-- the same, with the cost of the best beside it
abbrev pub IsCosted : (ℤ → ℤ) → Rules → Costed → Type 0
IsCosted cost r CostedNoDrive = NoDrive r
IsCosted cost r (CostedLate timing arrival) = IsLate r timing arrival
IsCosted cost r (CostedBest kept) = IsBestOfFamily cost r kept.drive × (kept.cost ≡ cost_of cost r kept.drive)
