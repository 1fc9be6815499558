-- Caps and coasting, computed on worked numbers.
use Rattle.std.specs.Prelude.{◌≡◌, ◌+◌, ◌<◌, ◌≤◌, ℕ, zero, suc, pos, List, [], ◌∷◌, true, false, length, slice_index}
use Rattle.std.proofs.Common.{refl, sym, arith}
use Rattle.std.proofs.lemmas.Int.{ints}
use Rattle.rail_specs.specs.declared.StepNumbers.{StepNumbers}
use Rattle.rail_specs.specs.declared.Narrow.{Narrow}
use Rattle.rail_specs.specs.Rules.{Rules, is_stop, IsPassed, IsStepKept, IsDrive}
use Rattle.speed_envelopes.specs.Narrowing.{IsNextStop, IsCoasting}

abbrev level : StepNumbers
level = record { mass = 1000; inertia = 1000; a = 1000; b = 0; c = 0; metres = 100; gradient = pos 0 }

-- four level steps of 100 m, with a stop in the middle
abbrev run : Rules
run = record {
  start = 0;
  top = 4;
  traction = 51000 ∷ 51000 ∷ 51000 ∷ 51000 ∷ 51000 ∷ [];
  brake = 100000 ∷ 100000 ∷ 100000 ∷ 100000 ∷ 100000 ∷ [];
  train_length = 0;
  steps = level ∷ level ∷ level ∷ level ∷ [];
  limits = 4 ∷ 4 ∷ 4 ∷ 4 ∷ [];
  places = 0 ∷ 100 ∷ 200 ∷ 300 ∷ 400 ∷ [];
  stops = false ∷ false ∷ true ∷ false ∷ true ∷ [];
  dwells = 0 ∷ 0 ∷ 0 ∷ 0 ∷ 0 ∷ [];
  timings = (record { point = 4; latest = pos 20000000 }) ∷ [];
}

abbrev without_traction : ℕ → ℕ → ℕ → Narrow
without_traction cap from to = record { cap = cap; idle_from = from; idle_to = to }

-- ---- stops

next_stop-of_the_start : IsNextStop run 0 2
next_stop-of_the_start = record { after = omega arith; stop = refl; first = passed }
  where
    passed : (k : ℕ) → 0 < k → k < 2 → is_stop run k ≡ false
    passed zero a b = absurd (omega arith)
    passed (suc zero) a b = refl
    passed (suc (suc k)) a b = absurd (omega arith)

next_stop-of_the_first_point_between : IsNextStop run 1 2
next_stop-of_the_first_point_between = record { after = omega arith; stop = refl; first = λ k a b. absurd (omega arith) }

next_stop-of_a_stop : IsNextStop run 2 4
next_stop-of_a_stop = record { after = omega arith; stop = refl; first = passed }
  where
    passed : (k : ℕ) → 2 < k → k < 4 → is_stop run k ≡ false
    passed zero a b = absurd (omega arith)
    passed (suc zero) a b = absurd (omega arith)
    passed (suc (suc zero)) a b = absurd (omega arith)
    passed (suc (suc (suc zero))) a b = refl
    passed (suc (suc (suc (suc k)))) a b = absurd (omega arith)

-- ---- coasting

coasting-from_the_start : IsCoasting run 375 0 (without_traction 375 0 2)
coasting-from_the_start = record { cap = refl; from = refl; to = next_stop-of_the_start }

-- half of 64 is half of the steps
coasting-from_the_middle : IsCoasting run 750 32 (without_traction 750 2 4)
coasting-from_the_middle = record { cap = refl; from = refl; to = next_stop-of_a_stop }

-- 31 64ths of 4 steps are 1 step and some more, which is left out
coasting-rounds_down : IsCoasting run 375 31 (without_traction 375 1 2)
coasting-rounds_down = record { cap = refl; from = refl; to = next_stop-of_the_first_point_between }

-- it ends at the first stop, and not at the last
coasting-not_to_the_last_stop : IsCoasting run 375 0 (without_traction 375 0 4) → ⊥
coasting-not_to_the_last_stop h = let e : true ≡ false = h.to.first 2 (omega arith) (omega arith) in cc

-- ---- caps

-- two of these steps, from rest to rest: the least time is 10,000 s
abbrev short : Rules
short = record {
  start = 0;
  top = 4;
  traction = 51000 ∷ 51000 ∷ 51000 ∷ 51000 ∷ 51000 ∷ [];
  brake = 100000 ∷ 100000 ∷ 100000 ∷ 100000 ∷ 100000 ∷ [];
  train_length = 0;
  steps = level ∷ level ∷ [];
  limits = 4 ∷ 4 ∷ [];
  places = 0 ∷ 100 ∷ 200 ∷ [];
  stops = false ∷ false ∷ true ∷ [];
  dwells = 0 ∷ 0 ∷ 0 ∷ [];
  timings = (record { point = 2; latest = pos 10000000 }) ∷ [];
}

drive-at_a_speed_of_4 : IsDrive short (0 ∷ 4 ∷ 0 ∷ [])
drive-at_a_speed_of_4 = record { count = refl; start = refl; points = passed; steps = kept }
  where
    passed : (k : ℕ) → 1 ≤ k → k < 3 → IsPassed short k (slice_index (0 ∷ 4 ∷ 0 ∷ []) k)
    passed zero a b = absurd (omega arith)
    passed (suc zero) a b = omega arith
    passed (suc (suc zero)) a b = refl
    passed (suc (suc (suc k))) a b = absurd (omega arith)

    kept : (i : ℕ) → i < 2 → IsStepKept short i (slice_index (0 ∷ 4 ∷ 0 ∷ []) i) (slice_index (0 ∷ 4 ∷ 0 ∷ []) (i + 1))
    kept zero l = record { limit = (omega arith, omega arith); top = (omega arith, omega arith); traction = omega (arith, ints); brake = omega (arith, ints) }
    kept (suc zero) l = record { limit = (omega arith, omega arith); top = (omega arith, omega arith); traction = omega (arith, ints); brake = omega (arith, ints) }
    kept (suc (suc i)) l = absurd (omega arith)
