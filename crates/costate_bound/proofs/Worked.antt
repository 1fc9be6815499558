-- The bound, computed on worked numbers.
use Rattle.std.specs.Prelude.{◌≡◌, ℕ, zero, suc, pos, negsuc, ℤ, List, [], ◌∷◌, true, false}
use Rattle.std.proofs.Common.{refl}
use Rattle.rail_specs.specs.declared.StepNumbers.{StepNumbers}
use Rattle.rail_specs.specs.Rules.{Rules}
use Rattle.costate_bound.specs.Relaxation.{Relaxation, above_full, below_share, exit_part, entry_part, rest, slope, costate_bound}

-- two level steps of 100 m to a stop, driven by a train of 100 tonnes with a constant resistance of 1,000 N
abbrev level : StepNumbers
level = record { mass = 1000; inertia = 1000; a = 1000; b = 0; c = 0; metres = 100; gradient = pos 0 }

abbrev run : ℕ → Rules
run latest = record {
  start = 0;
  top = 1000;
  traction = 51000 ∷ 51000 ∷ [];
  brake = 100000 ∷ 100000 ∷ [];
  train_length = 0;
  steps = level ∷ level ∷ [];
  limits = 1000 ∷ 1000 ∷ [];
  places = 0 ∷ 100 ∷ 200 ∷ [];
  stops = true ∷ false ∷ true ∷ [];
  dwells = 0 ∷ 0 ∷ 0 ∷ [];
  timings = (record { point = 2; latest = pos latest }) ∷ [];
}

abbrev relaxed : ℕ → ℕ → ℕ → List ℤ → Relaxation
relaxed latest price speed costates = record {
  rules = run latest;
  share = 0;
  prices = record { points = 2 ∷ []; values = price ∷ [] };
  speeds = 0 ∷ speed ∷ 0 ∷ [];
  costates = costates;
}

abbrev bound : ℕ → ℕ → ℕ → List ℤ → ℤ
bound latest price speed costates = costate_bound (relaxed latest price speed costates) (0 ∷ 1 ∷ 0 ∷ []) (0 ∷ 1000 ∷ 0 ∷ [])

slope-of_the_first : slope (relaxed 67000 106744794 598 (pos 64000 ∷ pos 0 ∷ [])) 0 ≡ 5970000000
slope-of_the_first = refl

above_full-of_70000 : above_full (pos 70000) ≡ 6000
above_full-of_70000 = refl

below_share-of_minus_5000 : below_share 500 (negsuc 4999) ≡ 37000
below_share-of_minus_5000 = refl

bound-of_the_slow_drive : bound 67000 106744794 598 (pos 64000 ∷ pos 0 ∷ []) ≡ pos 3764035312412
bound-of_the_slow_drive = refl

bound-of_the_fast_drive : bound 50000 256000000 800 (pos 64000 ∷ pos 0 ∷ []) ≡ pos 6599488000000
bound-of_the_fast_drive = refl

-- at costates 0 and no price every charge is 0, whatever the speeds are
bound-of_nothing : bound 50000 0 800 (pos 0 ∷ pos 0 ∷ []) ≡ pos 0
bound-of_nothing = refl

-- the floor of a negative sum goes down
bound-of_a_price_of_1 : bound 50000 1 800 (pos 0 ∷ pos 0 ∷ []) ≡ negsuc 12801
bound-of_a_price_of_1 = refl

-- all costates full
bound-of_full_costates : bound 50000 256000000 800 (pos 64000 ∷ pos 64000 ∷ []) ≡ negsuc 2800511999999
bound-of_full_costates = refl

-- at full traction from a standstill to 1000, at a costate above the full one: the work of 10,200,000,000,000 is charged at 64,000 alone, less the fall
-- of the priced time
abbrev flat : ℕ → ℕ → List ℕ
flat force zero = []
flat force (suc n) = force ∷ flat force n

abbrev strong : List ℤ → Relaxation
strong costates = record (relaxed 50000 256000000 1000 costates) { share = 500; rules = record (run 50000) { traction = flat 51000 1001; brake = flat 49000 1001 } }

slope-of_the_strong : slope (strong (pos 70000 ∷ negsuc 4999 ∷ [])) 0 ≡ 5120000000
slope-of_the_strong = refl

exit_part-at_full_traction : exit_part (strong (pos 70000 ∷ negsuc 4999 ∷ [])) 0 1000 ≡ pos 325120000000000000
exit_part-at_full_traction = refl

-- at full brakes from 1000 to a standstill, where half of the work comes back, at a costate below 0: 5,000 times 10,000,000,000,000, less 37,000
-- times 9,800,000,000,000, less the fall
entry_part-at_full_brakes : entry_part (strong (pos 70000 ∷ negsuc 4999 ∷ [])) 1 1000 ≡ negsuc 640279999999999999
entry_part-at_full_brakes = refl

rest-of_the_strong : rest (strong (pos 70000 ∷ negsuc 4999 ∷ [])) 0 ≡ pos 655343616000000000
rest-of_the_strong = refl
