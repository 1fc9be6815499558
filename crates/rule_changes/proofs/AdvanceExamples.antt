-- The definitions, computed on worked rules: two level steps with a timing point at each end, as they are from between the points on, and
-- from the point in the middle on.
use Rattle.std.specs.Prelude.{ℕ, ◌≡◌, pos, [], ◌∷◌, true, false}
use Rattle.std.proofs.Common.{refl, arith, inl, inr}
use Rattle.std.proofs.lemmas.Bool.{cases_eq}
use Rattle.rail_specs.specs.declared.StepNumbers.{StepNumbers}
use Rattle.rail_specs.specs.declared.Timing.{Timing}
use Rattle.rail_specs.specs.Rules.{Rules}
use Rattle.rule_changes.specs.Advance.{IsAdvanced}

abbrev level : ℕ → StepNumbers
level metres = record { mass = 1000; inertia = 1000; a = 1000; b = 0; c = 0; metres = metres; gradient = pos 0 }

abbrev timed : ℕ → ℕ → Timing
timed point latest = record { point = point; latest = pos latest }

-- 0 m, 100 m and 300 m, with a stop of 30 s at 100 m
abbrev old : Rules
old = record {
  start = 0;
  top = 1;
  traction = 100 ∷ 100 ∷ [];
  brake = 100 ∷ 100 ∷ [];
  train_length = 0;
  steps = level 100 ∷ level 200 ∷ [];
  limits = 1000 ∷ 1000 ∷ [];
  places = 0 ∷ 100 ∷ 300 ∷ [];
  stops = false ∷ true ∷ true ∷ [];
  dwells = 0 ∷ 30000 ∷ 0 ∷ [];
  timings = timed 1 60000 ∷ timed 2 200000 ∷ [];
}

-- from 50 m on at 900 cm/s, 10 s later
abbrev between : Rules
between = record {
  start = 900;
  top = 1;
  traction = 100 ∷ 100 ∷ [];
  brake = 100 ∷ 100 ∷ [];
  train_length = 0;
  steps = level 50 ∷ level 200 ∷ [];
  limits = 1000 ∷ 1000 ∷ [];
  places = 50 ∷ 100 ∷ 300 ∷ [];
  stops = false ∷ true ∷ true ∷ [];
  dwells = 0 ∷ 30000 ∷ 0 ∷ [];
  timings = timed 1 50000 ∷ timed 2 190000 ∷ [];
}

advanced-between : IsAdvanced old 50 900 (pos 10000) between
advanced-between = record {
  last = 0;
  last_is = record { there = omega arith; at = omega arith; below = omega arith };
  start_is = refl;
  top_is = refl;
  traction_is = refl;
  brake_is = refl;
  length_is = refl;
  places_are = refl;
  steps_are = refl;
  limits_are = refl;
  stops_are = refl;
  dwells_are = refl;
  timings_are = record {
    count = 0;
    passed = record {
      most = omega arith;
      passed = λ h l. absurd (omega arith);
      ahead = λ h m l. elim (cases_eq h 0) [ inl e ↦ rw e (omega arith) | inr ne ↦ (let e : h ≡ 1 = omega arith in rw e (omega arith)) ];
    };
    rest = refl;
  };
}

-- from 100 m on, where the train leaves from a standstill 100 s later: neither the stop nor its dwell nor its latest time is left
abbrev at_the_point : Rules
at_the_point = record {
  start = 0;
  top = 1;
  traction = 100 ∷ 100 ∷ [];
  brake = 100 ∷ 100 ∷ [];
  train_length = 0;
  steps = level 200 ∷ [];
  limits = 1000 ∷ [];
  places = 100 ∷ 300 ∷ [];
  stops = false ∷ true ∷ [];
  dwells = 0 ∷ 0 ∷ [];
  timings = timed 1 100000 ∷ [];
}

advanced-at_the_point : IsAdvanced old 100 0 (pos 100000) at_the_point
advanced-at_the_point = record {
  last = 1;
  last_is = record { there = omega arith; at = omega arith; below = omega arith };
  start_is = refl;
  top_is = refl;
  traction_is = refl;
  brake_is = refl;
  length_is = refl;
  places_are = refl;
  steps_are = refl;
  limits_are = refl;
  stops_are = refl;
  dwells_are = refl;
  timings_are = record {
    count = 1;
    passed = record {
      most = omega arith;
      passed = λ h l. (let e : h ≡ 0 = omega arith in rw e (omega arith));
      ahead = λ h m l. (let e : h ≡ 1 = omega arith in rw e (omega arith));
    };
    rest = refl;
  };
}
