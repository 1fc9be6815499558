-- What the speed at one end of a step allows at the other, as levels that are only lowered.
-- The level of a speed is the speed itself where the greatest drive is sought, and what the speed lacks of the top where
-- the least one is: so a level is lowered where a greatest speed is lowered, and where a least speed is raised.
use Rattle.std.specs.Prelude.{ℕ, ◌-◌, ◌==◌, ◌&&◌, nat_le, nat_lt, Bool, if◌then◌else◌, ℤ, pos, neg_ℤ, ◌-ℤ◌, ◌≤ℤ◌}
use Rattle.rail_specs.specs.declared.Narrow.{Narrow}
use Rattle.rail_specs.specs.Step.{work_up, work_down}
use Rattle.rail_specs.specs.Rules.{Rules, step_at, is_stop, traction_work, brake_work}
use Rattle.speed_envelopes.specs.declared.bounds.Side.{Side}
use Rattle.speed_envelopes.specs.declared.bounds.Side.TheVariants.{Greatest, Least}
use Rattle.speed_envelopes.specs.declared.bounds.End.{End}
use Rattle.speed_envelopes.specs.declared.bounds.End.TheVariants.{Exit, Entry}

-- rules, a narrowing, and which of the two drives is sought
pub record Setting : Type 0 where
  pub rules : Rules
  pub narrow : Narrow
  pub side : Side

-- whether step i is without traction
abbrev pub is_idle : Narrow → ℕ → Bool
is_idle n i = nat_le n.idle_from i && nat_lt i n.idle_to

-- the most work that may be done over step i to the exit speed v1: that of the traction, or none
abbrev pub most_work : Rules → Narrow → ℕ → ℕ → ℕ
most_work r n i v1 = if is_idle n i then 0 else traction_work r i v1

-- what the exit speed v1 asks of the entry speed v0, for the traction to take the train over step i: that `work_down` at v0 is at
-- least this
abbrev pub traction_asks : Rules → Narrow → ℕ → ℕ → ℤ
traction_asks r n i v1 = work_up (step_at r i) v1 -ℤ pos (most_work r n i v1)

-- what the entry speed v0 asks of the exit speed v1, for the brakes to hold the train over step i: that `work_up` at v1 is at
-- least this
abbrev pub brakes_ask : Rules → ℕ → ℕ → ℤ
brakes_ask r i v0 = pos (work_down (step_at r i) v0) -ℤ pos (brake_work r i v0)

-- what a level at one end of step i asks of the other end, by which drive is sought
abbrev pub asked : Side → End → Rules → Narrow → ℕ → ℕ → ℤ
asked Greatest Exit r n i level = traction_asks r n i level
asked Greatest Entry r n i level = brakes_ask r i level
asked Least Exit r n i level = neg_ℤ (work_up (step_at r i) (r.top - level))
asked Least Entry r n i level = neg_ℤ (pos (work_down (step_at r i) (r.top - level)))

-- what a level at the other end of step i gives to this end, by which drive is sought
abbrev pub given : Side → End → Rules → Narrow → ℕ → ℕ → ℤ
given Greatest Exit r n i level = pos (work_down (step_at r i) level)
given Greatest Entry r n i level = work_up (step_at r i) level
given Least Exit r n i level = neg_ℤ (brakes_ask r i (r.top - level))
given Least Entry r n i level = neg_ℤ (traction_asks r n i (r.top - level))

-- the least speed at point k: the start speed, 0 at a stop, and 1 elsewhere
abbrev pub least_speed : Rules → ℕ → ℕ
least_speed r k = if k == 0 then r.start else if is_stop r k then 0 else 1

-- below which no level at point k is a drive's, by which drive is sought
abbrev pub floor_of : Side → Rules → ℕ → ℕ
floor_of Greatest r k = least_speed r k
floor_of Least r k = 0

-- what a level at one end of step i asks of the other end, in a setting
abbrev pub asks : Setting → End → ℕ → ℕ → ℤ
asks s end i level = asked s.side end s.rules s.narrow i level

-- what a level at the other end of step i gives to this end, in a setting
abbrev pub gives : Setting → End → ℕ → ℕ → ℤ
gives s end i level = given s.side end s.rules s.narrow i level

-- below which no level at point k is a drive's, in a setting
abbrev pub floor : Setting → ℕ → ℕ
floor s k = floor_of s.side s.rules k

-- the levels at the two ends of step i are such that each gives what the other asks
pub record IsLevelPair (s : Setting) (i at_entry at_exit : ℕ) : Type 0 where
  pub exit : asks s Exit i at_exit ≤ℤ gives s Exit i at_entry
  pub entry : asks s Entry i at_entry ≤ℤ gives s Entry i at_exit

-- the traction takes the train over step i from v0 to v1, and the brakes hold it
pub record IsStepDriven (r : Rules) (n : Narrow) (i v0 v1 : ℕ) : Type 0 where
  pub traction : traction_asks r n i v1 ≤ℤ pos (work_down (step_at r i) v0)
  pub brake : brakes_ask r i v0 ≤ℤ work_up (step_at r i) v1
