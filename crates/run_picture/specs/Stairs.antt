-- The speed limit over the places, and the gradient below it: both stay the same over a step.
use Rattle.std.specs.Prelude.{ℕ, ◌+◌, List, ◌∷◌, ◌++◌, codes, decimal, length, slice_index}
use Rattle.rail_specs.specs.Rules.{Rules, step_at}
use Rattle.run_picture.specs.declared.scale.Scale.{Scale}
use Rattle.sheet_parts.specs.Fill.{joined_below}
use Rattle.run_picture.specs.Scale.{place_x, speed_y, gradient_y}

-- up or down to y, and level to x
unfoldable pub stair : ℕ → ℕ → List ℕ
stair y x = 86 ∷ decimal y ++ 72 ∷ decimal x

-- the limit of step i
unfoldable pub limit_stair : Scale → Rules → ℕ → List ℕ
limit_stair s r i = stair (speed_y s (slice_index r.limits i)) (place_x s (slice_index r.places (i + 1)))

-- where the limit of the first step lies, from above
unfoldable pub first_limit_y : Scale → Rules → ℕ
first_limit_y s r = speed_y s (slice_index r.limits 0)

-- how the line of the limit begins: at the left
unfoldable pub limit_start : Scale → Rules → List ℕ
limit_start s r = codes "<path class='l' d='M900 " ++ decimal (first_limit_y s r)

-- the line of the limit
unfoldable pub limit_line : Scale → Rules → List ℕ
limit_line s r = limit_start s r ++ joined_below (limit_stair s r) (length r.steps) ++ codes "'/>\n"

-- the gradient of step i
unfoldable pub gradient_stair : Scale → Rules → ℕ → List ℕ
gradient_stair s r i = stair (gradient_y s (step_at r i).gradient) (place_x s (slice_index r.places (i + 1)))

-- the area between the gradient and level track
unfoldable pub gradient_area : Scale → Rules → List ℕ
gradient_area s r = codes "<path class='n' d='M900 4900" ++ joined_below (gradient_stair s r) (length r.steps) ++ codes "V4900z'/>\n"
