-- The points of a drive as a table of comma-separated fields.
use Rattle.std.specs.Prelude.{ℕ, ◌+◌, ◌*◌, nat_lt, ℤ, pos, List, ◌∷◌, ◌++◌, codes, decimal, length, slice_index, if◌then◌else◌}
use Rattle.rail_specs.specs.Rules.{Rules, step_at, work_at}
use Rattle.rail_specs.specs.Times.{arrival_up}
use Rattle.rail_specs.specs.Cost.{int_sum_below}
use Rattle.rail_base.specs.Texts.{line}
use Rattle.drive_report.specs.Phase.{phase_at, phase_name}
use Rattle.sheet_parts.specs.Fill.{joined_below}
use Rattle.sheet_parts.specs.Decimals.{decimals_text}
use Rattle.sheet_parts.specs.Energy.{kilowatt_hours_up}

-- the names of the fields
unfoldable pub field_names : List ℕ
field_names = line (codes "place_m,speed_cm_s,speed_km_h,time_s,limit_cm_s,limit_km_h,gradient_per_mille,phase,work_kwh")

-- a speed in cm/s and in km/h: 1 cm/s is 0.036 km/h
unfoldable pub speed_fields : ℕ → List ℕ
speed_fields v = decimal v ++ 44 ∷ decimals_text 3 (pos (36 * v))

-- the limit of step i, its gradient in per mille, and its phase
unfoldable pub step_fields : Rules → List ℕ → ℕ → List ℕ
step_fields r speeds i =
    speed_fields (slice_index r.limits i) ++ (44 ∷ decimals_text 1 (step_at r i).gradient ++ 44 ∷ phase_name (phase_at r speeds i))

-- these of the step that begins at point k, and empty fields at the last point, where none begins
unfoldable pub next_fields : Rules → List ℕ → ℕ → List ℕ
next_fields r speeds k = if nat_lt k (length r.steps) then step_fields r speeds k else codes ",,,"

-- the place of point k in metres, the speed there, and the time, in seconds, at which the train reaches it
unfoldable pub place_fields : Rules → List ℕ → ℕ → ℕ → List ℕ
place_fields r speeds k arrival =
    decimal (slice_index r.places k) ++ (44 ∷ speed_fields (slice_index speeds k) ++ 44 ∷ decimals_text 3 (pos arrival))

-- the cost of the steps before point k, in 0.5 microjoule
abbrev pub cost_before : (ℤ → ℤ) → Rules → List ℕ → ℕ → ℤ
cost_before cost r speeds k = int_sum_below (λ i. cost (work_at r speeds i)) k

-- the line of point k, which the train reaches at this time and energy: its own fields, those of the step that begins there, and the energy,
-- rounded up to hundredths of a kWh
unfoldable pub point_line : Rules → List ℕ → ℕ → ℕ → ℤ → List ℕ
point_line r speeds k arrival energy =
    line (place_fields r speeds k arrival ++ (44 ∷ next_fields r speeds k ++ 44 ∷ decimals_text 2 (kilowatt_hours_up energy)))

-- the line of point k of a drive, with step times rounded up, and the cost of the steps before it
abbrev pub line_of_point : (ℤ → ℤ) → Rules → List ℕ → ℕ → List ℕ
line_of_point cost r speeds k = point_line r speeds k (arrival_up r speeds k) (cost_before cost r speeds k)

-- the names of the fields, and a line for each point
unfoldable pub points_text : (ℤ → ℤ) → Rules → List ℕ → List ℕ
points_text cost r speeds = field_names ++ joined_below (line_of_point cost r speeds) (length r.steps + 1)
