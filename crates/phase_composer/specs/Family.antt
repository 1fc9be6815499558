-- The family of composed drives: greatest drives under caps, and under caps and without traction from a point to a stop.
-- The family is this project's own choice.
use Rattle.std.specs.Prelude.{ℕ, ◌*◌, ◌≤◌, List}
use Rattle.rail_specs.specs.declared.Narrow.{Narrow}
use Rattle.rail_specs.specs.Rules.{Rules}
use Rattle.rail_specs.specs.Ranges.{IsGreatestNarrowDrive}
use Rattle.rail_specs.specs.Times.{IsOnTimeUp}
use Rattle.speed_envelopes.specs.Narrowing.{capped, IsCoasting}

-- the greatest drive under the cap exists and is on time
abbrev pub CapIsOnTime : Rules → ℕ → Type 0
CapIsOnTime r cap = (d : List ℕ) × IsGreatestNarrowDrive r (capped cap) d × IsOnTimeUp r d

-- the least cap from 1 to 12,000 whose greatest drive is on time
pub record IsLeastCap (r : Rules) (cap : ℕ) : Type 0 where
  pub some : 1 ≤ cap
  pub most : cap ≤ 12000
  pub on_time : CapIsOnTime r cap
  pub least : (c : ℕ) → 1 ≤ c → CapIsOnTime r c → cap ≤ c

-- a member of the family
pub data IsMember (r : Rules) (d : List ℕ) : Type 0 where
  -- the greatest drive under a cap from 10 to 12,000 that is a multiple of 10
  of_tens : (tens : ℕ) → 1 ≤ tens → tens ≤ 1200 → IsGreatestNarrowDrive r (capped (10 * tens)) d → IsMember r d
  -- the greatest drive under the least cap that is on time
  of_least : (cap : ℕ) → IsLeastCap r cap → IsGreatestNarrowDrive r (capped cap) d → IsMember r d
  -- the greatest drive under a cap of 375 j, j from 1 to 32, without traction from one of 64 points to the first stop after it
  of_coasting : (j k : ℕ) → (n : Narrow) → 1 ≤ j → j ≤ 32 → k ≤ 63 → IsCoasting r (375 * j) k n → IsGreatestNarrowDrive r n d → IsMember r d
