-- The definitions, computed on worked numbers.
use Rattle.std.specs.Prelude.{◌≡◌, ℕ, pos, negsuc, List, [], ◌∷◌, true, false}
use Rattle.std.proofs.Common.{refl}
use Rattle.rail_specs.specs.declared.StepNumbers.{StepNumbers}
use Rattle.rail_specs.specs.Step.{work, work_up, work_down, lower_time, upper_time}
use Rattle.rail_specs.specs.Table.{force, top_speed}
use Rattle.rail_specs.specs.Rules.{Rules}
use Rattle.rail_specs.specs.Times.{arrival_up, arrival_down, slack_of}
use Rattle.rail_specs.specs.Cost.{traction_cost, regained_cost, cost_of}

-- a level step of 100 m, driven by a train of 100 tonnes with a constant resistance of 1,000 N
abbrev level : StepNumbers
level = record { mass = 1000; inertia = 1000; a = 1000; b = 0; c = 0; metres = 100; gradient = pos 0 }

work-from_rest : work level 0 800 ≡ pos 6600000000000
work-from_rest = refl

work-to_rest : work level 800 0 ≡ negsuc 6199999999999
work-to_rest = refl

work-to_the_top : work level 0 1000 ≡ pos 10200000000000
work-to_the_top = refl

work_up-at_the_top : work_up level 1000 ≡ pos 10200000000000
work_up-at_the_top = refl

work_down-from_800 : work_down level 800 ≡ 6400000000000
work_down-from_800 = refl

-- the same step uphill by 60 per mille
work-uphill : work (record level { gradient = pos 600 }) 0 1 ≡ pos 11972010000000
work-uphill = refl

-- the same step with all three parts of the resistance, the linear one at the exit speed
work-in_the_wind : work (record level { b = 3; c = 5 }) 10 20 ≡ pos 203012250000
work-in_the_wind = refl

lower_time-of_100 : lower_time 100 0 300 ≡ 66666
lower_time-of_100 = refl

upper_time-of_100 : upper_time 100 0 300 ≡ 66667
upper_time-of_100 = refl

-- two rows of a table, with a straight line between them
abbrev rows : List (ℕ × ℕ)
rows = (0, 300) ∷ (3, 200) ∷ []

force-at_0 : force rows 0 ≡ 300
force-at_0 = refl

force-at_1 : force rows 1 ≡ 266
force-at_1 = refl

force-at_2 : force rows 2 ≡ 233
force-at_2 = refl

force-at_3 : force rows 3 ≡ 200
force-at_3 = refl

top_speed-of_rows : top_speed rows ≡ 3
top_speed-of_rows = refl

-- two such steps, with 30 s at the point between them and 50 s to the end
abbrev run : Rules
run = record {
  start = 0;
  top = 1000;
  traction = [];
  brake = [];
  train_length = 0;
  steps = level ∷ level ∷ [];
  limits = 1000 ∷ 1000 ∷ [];
  places = 0 ∷ 100 ∷ 200 ∷ [];
  stops = true ∷ false ∷ true ∷ [];
  dwells = 0 ∷ 30000 ∷ 0 ∷ [];
  timings = (record { point = 2; latest = pos 50000 }) ∷ [];
}

arrival_up-of_a_drive : arrival_up run (0 ∷ 598 ∷ 0 ∷ []) 2 ≡ 96890
arrival_up-of_a_drive = refl

arrival_down-of_a_drive : arrival_down run (0 ∷ 598 ∷ 0 ∷ []) 2 ≡ 96888
arrival_down-of_a_drive = refl

arrival_up-at_the_first_point : arrival_up run (0 ∷ 598 ∷ 0 ∷ []) 0 ≡ 0
arrival_up-at_the_first_point = refl

slack_of-the_end : slack_of run 0 ≡ pos 20000
slack_of-the_end = refl

cost_of-a_drive : cost_of traction_cost run (0 ∷ 800 ∷ 0 ∷ []) ≡ pos 6600000000000
cost_of-a_drive = refl

traction_cost-of_braking : traction_cost (negsuc 4) ≡ pos 0
traction_cost-of_braking = refl

-- half of what the brakes take over the second step comes back: 6,600,000,000,000 less 3,100,000,000,000
cost_of-a_drive_that_regains : cost_of (regained_cost 500) run (0 ∷ 800 ∷ 0 ∷ []) ≡ pos 3500000000000
cost_of-a_drive_that_regains = refl

-- three quarters of 5 are 3 and some more, which isn't given back
regained_cost-rounds_down : regained_cost 750 (negsuc 4) ≡ negsuc 2
regained_cost-rounds_down = refl

regained_cost-of_no_more_than_all : regained_cost 60000 (negsuc 4) ≡ negsuc 4
regained_cost-of_no_more_than_all = refl
