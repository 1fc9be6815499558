-- The example route and some refused texts, read by the definitions.
use Rattle.std.proofs.Common.{ℕ, ◌≡◌, List, [], ◌∷◌, ◌++◌, Ok, Err, true, false, refl}
use Rattle.std.specs.Prelude.{pos, negsuc, codes}
use Rattle.route_file.specs.declared.fault.RouteFault.TheVariants.{Form, Range}
use Rattle.route_file.specs.Route.{RouteStep, route_of, rules_of_text}

abbrev heading : List ℕ
heading = codes "route 1\ntrain 1000 1000 1000 0 0\ntop 3\ntraction 51000\nbrake 100000\nlatest 50\n"

abbrev a_step : RouteStep
a_step = record { metres = 100; gradient = negsuc 9; limit = 1000 }

-- lines that end with a carriage return and a line feed, leading zeros, and a last line without its end
accepted : route_of (heading ++ codes "step 0100 -10 1000\r\nstep 100 -010 1000\nend") ≡ Ok (record {
  train = record { mass = 1000; inertia = 1000; a = 1000; b = 0; c = 0 };
  top = 3;
  traction = 51000;
  brake = 100000;
  latest = 50;
  steps = a_step ∷ a_step ∷ [];
})
accepted = refl

rules : rules_of_text (heading ++ codes "step 100 0 900\nstep 200 0 800\nend\n") ≡ Ok (record {
  start = 0;
  top = 3;
  traction = 51000 ∷ 51000 ∷ 51000 ∷ 51000 ∷ [];
  brake = 100000 ∷ 100000 ∷ 100000 ∷ 100000 ∷ [];
  train_length = 0;
  steps = record { mass = 1000; inertia = 1000; a = 1000; b = 0; c = 0; metres = 100; gradient = pos 0 } ∷ record { mass = 1000; inertia = 1000; a = 1000; b = 0; c = 0; metres = 200; gradient = pos 0 } ∷ [];
  limits = 900 ∷ 800 ∷ [];
  places = 0 ∷ 100 ∷ 300 ∷ [];
  stops = false ∷ false ∷ true ∷ [];
  dwells = 0 ∷ 0 ∷ 0 ∷ [];
  timings = record { point = 2; latest = pos 50000 } ∷ [];
})
rules = refl

one_step : route_of (heading ++ codes "step 100 0 1000\nend\n") ≡ Err (Range 8)
one_step = refl

no_end : route_of (heading ++ codes "step 100 0 1000\nstep 100 0 1000\n") ≡ Err (Form 9)
no_end = refl

behind_end : route_of (heading ++ codes "step 100 0 1000\nstep 100 0 1000\nend\n\n") ≡ Err (Form 10)
behind_end = refl

-- the first line that is refused counts
limit_before_end : route_of (heading ++ codes "step 100 0 0\nstep 100  0 1000\nend \n") ≡ Err (Range 7)
limit_before_end = refl

empty : route_of [] ≡ Err (Form 1)
empty = refl
