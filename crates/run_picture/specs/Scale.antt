-- Where places, speeds and gradients lie. A picture is 12,000 units wide and 8,480 high. Places go from 900 units from the left to
-- 11,700, speeds from 4,250 units from above up to 1,050, and gradients go 440 units up and down from 4,900. Each is rounded down.
use Rattle.std.specs.Prelude.{ℕ, zero, suc, ◌≤◌, ◌+◌, ◌-◌, ◌*◌, ◌/◌, min, max, nat_le, if◌then◌else◌, List, [], ◌∷◌, length, slice_index, ℤ, pos, negsuc}
use Rattle.std.specs.Int.{div_ceil}
use Rattle.std.specs.Int.RustNames.{unsigned_abs}
use Rattle.rail_specs.specs.Rules.{Rules, step_at}
use Rattle.run_picture.specs.declared.scale.Scale.{Scale}

-- the greatest of f 0, .., f (n - 1), and 0 where there is none
abbrev pub greatest_below : (ℕ → ℕ) → ℕ → ℕ
greatest_below f zero = 0
greatest_below f (suc n) = max (greatest_below f n) (f n)

-- the round numbers, by which axes are divided
abbrev pub round_numbers : List ℕ
round_numbers =
    1 ∷ 2 ∷ 5 ∷ 10 ∷ 20 ∷ 50 ∷ 100 ∷ 200 ∷ 500 ∷ 1000 ∷ 2000 ∷ 5000 ∷ 10000 ∷ 20000 ∷ 50000 ∷ 100000 ∷ 200000 ∷ 500000 ∷ 1000000 ∷ []

-- the first of the numbers that is enough to reach a size in so many steps, and 1000000 where none is
abbrev pub first_enough : List ℕ → ℕ → ℕ → ℕ
first_enough [] size steps = 1000000
first_enough (n ∷ more) size steps = if nat_le size (steps * n) then n else first_enough more size steps

-- the first round number that is enough to reach a size in so many steps
unfoldable pub round_step : ℕ → ℕ → ℕ
round_step size steps = first_enough round_numbers size steps

-- the speed up to which the axis has to go, in cm/s: the greatest limit, but at most twice the greatest speed that is driven
abbrev pub shown_speed : Rules → List ℕ → ℕ
shown_speed r speeds =
    min (greatest_below (λ i. slice_index r.limits i) (length r.steps)) (2 * greatest_below (λ k. slice_index speeds k) (length r.steps + 1))

-- that speed and a twentieth of it, in km/h: 1 km/h is 250/9 cm/s
abbrev pub shown_kilometres : Rules → List ℕ → ℕ
shown_kilometres r speeds = shown_speed r speeds * 189 / 5000

-- the greatest gradient, up or down, in per mille and rounded up
abbrev pub shown_gradient : Rules → ℕ
shown_gradient r = div_ceil (greatest_below (λ i. unsigned_abs (step_at r i).gradient) (length r.steps)) 10

-- the least multiple of a step above a size
abbrev pub next_multiple : ℕ → ℕ → ℕ
next_multiple size step = size / step * step + step

-- the scale of the picture of a drive: all its places, speeds in at most nine steps, and gradients in two steps each way
abbrev pub scale_of : Rules → List ℕ → Scale
scale_of r speeds = record {
  first = slice_index r.places 0;
  span = slice_index r.places (length r.steps) - slice_index r.places 0;
  speed_step = round_step (shown_kilometres r speeds) 8;
  speed_top = next_multiple (shown_kilometres r speeds) (round_step (shown_kilometres r speeds) 8);
  gradient_step = round_step (shown_gradient r) 2;
}

-- the ranges of a scale's numbers
pub record IsScale (s : Scale) : Type 0 where
  pub first : s.first ≤ 4000000
  pub span : (1 ≤ s.span) × (s.span ≤ 4000000)
  pub speed_step : (1 ≤ s.speed_step) × (s.speed_step ≤ 1000000)
  pub speed_top : (1 ≤ s.speed_top) × (s.speed_top ≤ 2000000)
  pub gradient_step : (1 ≤ s.gradient_step) × (s.gradient_step ≤ 1000000)

-- where a place in metres lies, from the left
abbrev pub place_x : Scale → ℕ → ℕ
place_x s place = 900 + (place - s.first) * 10800 / s.span

-- where a speed in cm/s lies, from above. One above the top of the axis lies a little above the axis
abbrev pub speed_y : Scale → ℕ → ℕ
speed_y s v = 4250 - min 3290 (v * 28800 / (250 * s.speed_top))

-- where a gradient in 1/10 per mille lies, from above: uphill is up
abbrev pub gradient_y : Scale → ℤ → ℕ
gradient_y s (pos n) = 4900 - min 440 (n * 22 / s.gradient_step)
gradient_y s (negsuc n) = 4900 + min 440 ((n + 1) * 22 / s.gradient_step)
