-- The phases of a drive: what the train does over each step.
use Rattle.std.specs.Prelude.{ℕ, ◌+◌, ◌==◌, ◌&&◌, ◌||◌, nat_lt, Bool, pos, List, codes, slice_index, if◌then◌else◌}
use Rattle.std.specs.Int.RustNames.{int_lt, int_le}
use Rattle.drive_report.specs.declared.kinds.Phase.{Phase}
use Rattle.drive_report.specs.declared.kinds.Phase.TheVariants.{Hold, Power, Coast, Brake, Part}
use Rattle.rail_specs.specs.Step.{work}
use Rattle.rail_specs.specs.Rules.{Rules, step_at, traction_work}

-- the phase of step i from v0 to v1, the first that fits: at one speed; with as much traction as the train has; without
-- traction, where one more speed would want it; braking; or in any other way
abbrev pub phase_of : Rules → ℕ → ℕ → ℕ → Phase
phase_of r i v0 v1 =
    let w = work (step_at r i) v0 v1 in
    let faster = work (step_at r i) v0 (v1 + 1) in
    if v1 == v0 then Hold
    else if int_lt (pos 0) w && nat_lt v0 v1 && (nat_lt r.top (v1 + 1) || int_lt (pos (traction_work r i (v1 + 1))) faster) then Power
    else if int_le w (pos 0) && int_lt (pos 0) faster then Coast
    else if int_le w (pos 0) then Brake
    else Part

-- the phase of step i of a list of speeds
unfoldable pub phase_at : Rules → List ℕ → ℕ → Phase
phase_at r speeds i = phase_of r i (slice_index speeds i) (slice_index speeds (i + 1))

-- the names of phases
abbrev pub phase_name : Phase → List ℕ
phase_name Hold = codes "hold"
phase_name Power = codes "power"
phase_name Coast = codes "coast"
phase_name Brake = codes "brake"
phase_name Part = codes "part"

-- the place of a phase in the order in which phases are tried
abbrev pub order_of : Phase → ℕ
order_of Hold = 0
order_of Power = 1
order_of Coast = 2
order_of Brake = 3
order_of Part = 4

-- two phases are one
abbrev pub is_same : Phase → Phase → Bool
is_same a b = order_of a == order_of b
