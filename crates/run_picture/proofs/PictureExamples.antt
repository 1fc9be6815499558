-- The definitions, computed on worked numbers.
use Rattle.std.specs.Prelude.{◌≡◌, pos, negsuc, codes}
use Rattle.std.proofs.Common.{refl}
use Rattle.std.specs.Fmt.{digits}
use Rattle.run_picture.specs.declared.scale.Scale.{Scale}
use Rattle.run_picture.specs.Scale.{round_step, next_multiple, place_x, speed_y, gradient_y}
use Rattle.run_picture.specs.Curve.{arc}

-- 40 km with speeds up to 120 km/h and gradients up to 3 per mille
forty : Scale
forty = record { first = 0; span = 40000; speed_step = 20; speed_top = 120; gradient_step = 2 }

step-of_forty_kilometres : round_step 40000 12 ≡ 5000
unfolding round_step
step-of_forty_kilometres = refl

step-of_no_gradient : round_step 0 2 ≡ 1
unfolding round_step
step-of_no_gradient = refl

top-above_the_limit : next_multiple 105 20 ≡ 120
top-above_the_limit = refl

place-of_the_middle : place_x forty 20000 ≡ 6300
unfolding forty
place-of_the_middle = refl

-- 2500 cm/s are 90 km/h, three quarters of the axis
speed-of_ninety : speed_y forty 2500 ≡ 1850
unfolding forty
speed-of_ninety = refl

speed-above_the_axis : speed_y forty 12000 ≡ 960
unfolding forty
speed-above_the_axis = refl

gradient-up : gradient_y forty (pos 30) ≡ 4570
unfolding forty
gradient-up = refl

gradient-down : gradient_y forty (negsuc 39) ≡ 5340
unfolding forty
gradient-down = refl

-- from a standstill a curve begins upright
arc-from_a_standstill : arc 900 4250 1000 2650 0 1667 ≡ codes "M900 4250Q900 3450 1000 2650"
unfolding arc digits
arc-from_a_standstill = refl

arc-at_a_third : arc 900 2000 1200 1000 1000 2000 ≡ codes "M900 2000Q1000 1500 1200 1000"
unfolding arc digits
arc-at_a_third = refl
