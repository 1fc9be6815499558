-- The curve of a drive's speed over its places. Over a step the square of the speed is linear in the distance (elementary mechanics), so the
-- curve of a step is a parabola, and a Bezier curve with one control point is exactly that: it leaves the entry towards the control point,
-- which lies at the mean of the two speeds, and so far along the step as the entry speed is of the sum of both.
use Rattle.std.specs.Prelude.{ℕ, ◌+◌, ◌-◌, ◌*◌, ◌/◌, List, [], ◌∷◌, ◌++◌, codes, length, slice_index, if◌then◌else◌}
use Rattle.rail_specs.specs.Rules.{Rules}
use Rattle.drive_report.specs.declared.kinds.Phase.{Phase}
use Rattle.drive_report.specs.Phase.{phase_at, phase_name, is_same}
use Rattle.run_picture.specs.declared.scale.Scale.{Scale}
use Rattle.sheet_parts.specs.Fill.{joined_below}
use Rattle.run_picture.specs.Pen.{point}
use Rattle.run_picture.specs.Scale.{place_x, speed_y}

-- the parabola from one point to another, where the speeds are v0 and v1
unfoldable pub arc : ℕ → ℕ → ℕ → ℕ → ℕ → ℕ → List ℕ
arc x0 y0 x1 y1 v0 v1 =
    77 ∷ point x0 y0 ++ 81 ∷ point (x0 + (x1 - x0) * v0 / (v0 + v1)) ((y0 + y1) / 2) ++ 32 ∷ point x1 y1

-- the curve of step i
unfoldable pub step_arc : Scale → Rules → List ℕ → ℕ → List ℕ
step_arc s r speeds i =
    arc (place_x s (slice_index r.places i)) (speed_y s (slice_index speeds i)) (place_x s (slice_index r.places (i + 1)))
    (speed_y s (slice_index speeds (i + 1))) (slice_index speeds i) (slice_index speeds (i + 1))

-- the curve of step i, if that is its phase
unfoldable pub phase_arc : Scale → Rules → List ℕ → Phase → ℕ → List ℕ
phase_arc s r speeds p i = if is_same (phase_at r speeds i) p then step_arc s r speeds i else []

-- the curve of all steps of a phase, which has the phase's colour
unfoldable pub phase_curve : Scale → Rules → List ℕ → Phase → List ℕ
phase_curve s r speeds p =
    codes "<path class='c " ++ phase_name p ++ codes "' d='" ++ joined_below (phase_arc s r speeds p) (length r.steps) ++ codes "'/>\n"
