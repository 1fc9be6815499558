-- The axes: a thin line and a number at each tick.
use Rattle.std.specs.Prelude.{ℕ, ◌+◌, ◌-◌, ◌*◌, ◌/◌, nat_le, if◌then◌else◌, List, [], ◌++◌, codes, decimal, pos}
use Rattle.sheet_parts.specs.Fill.{joined_below}
use Rattle.sheet_parts.specs.Decimals.{decimals_text}
use Rattle.run_picture.specs.declared.scale.Scale.{Scale}
use Rattle.run_picture.specs.Scale.{place_x, round_step}

-- a place in metres as a number of km, with as many digits as an axis of this step takes: none, one or three
unfoldable pub kilometres_text : ℕ → ℕ → List ℕ
kilometres_text step place =
    if nat_le 1000 step then decimal (place / 1000)
    else if nat_le 100 step then decimals_text 1 (pos (place / 100))
    else decimals_text 3 (pos place)

-- the tick at so many units from the left, with this number
unfoldable pub upright_tick : ℕ → List ℕ → List ℕ
upright_tick x label =
    codes "<path class='g' d='M" ++ decimal x ++ codes " 1050V5340'/><text class='m' x='" ++ decimal x ++ codes "' y='5540'>" ++ label ++ codes "</text>\n"

-- the tick at so many units from above, with this number
unfoldable pub level_tick : ℕ → List ℕ → List ℕ
level_tick y label =
    codes "<path class='g' d='M900 " ++ decimal y ++ codes "H11700'/><text class='e' x='820' y='" ++ decimal (y + 60) ++ codes "'>" ++ label ++ codes "</text>\n"

-- the tick at k steps of the axis of places, where the picture has that place
unfoldable pub place_tick : Scale → ℕ → ℕ → List ℕ
place_tick s step k = if nat_le s.first (k * step) then upright_tick (place_x s (k * step)) (kilometres_text step (k * step)) else []

-- the axis of places, in km: at most twelve steps
unfoldable pub place_ticks : Scale → List ℕ
place_ticks s = joined_below (place_tick s (round_step s.span 12)) ((s.first + s.span) / round_step s.span 12 + 1)

-- the tick at k steps of the axis of speeds
unfoldable pub speed_tick : Scale → ℕ → List ℕ
speed_tick s k = level_tick (4250 - k * s.speed_step * 3200 / s.speed_top) (decimal (k * s.speed_step))

-- the axis of speeds, in km/h
unfoldable pub speed_ticks : Scale → List ℕ
speed_ticks s = joined_below (speed_tick s) (s.speed_top / s.speed_step + 1)

-- the axis of gradients, in per mille
unfoldable pub gradient_ticks : Scale → List ℕ
gradient_ticks s =
    level_tick 4460 (decimal (2 * s.gradient_step)) ++ level_tick 4900 (codes "0") ++ level_tick 5340 (codes "-" ++ decimal (2 * s.gradient_step))
