-- Faster drives arrive no later.
use Rattle.std.proofs.Common.{ℕ, zero, suc, ◌≤◌, ◌<◌, ◌+◌, get_or, arith}
use Rattle.std.specs.Prelude.{slice_index}
use Rattle.std.proofs.lemmas.Int.{ints}
use Rattle.std.proofs.lemmas.Grind.{common_steps}
use Rattle.rail_specs.specs.Step.{upper_time}
use Rattle.rail_specs.specs.Rules.{step_at}
use Rattle.rail_specs.specs.Times.{sum_below}
use Rattle.drive_rules.proofs.DriveLemmas.{moves_of_drive}
use Rattle.speed_envelopes.specs.Closure.{FasterIsSooner, FasterIsOnTime, GreatestIsOnTime}

upper_time-falls : (m v0 v1 w0 w1 : ℕ) → 1 ≤ v0 + v1 → v0 ≤ w0 → v1 ≤ w1 → upper_time m w0 w1 ≤ upper_time m v0 v1
upper_time-falls m v0 v1 w0 w1 h a b = grind (arith, common_steps)

sum_below-le : (f g : ℕ → ℕ) (n : ℕ) → ((i : ℕ) → i < n → f i ≤ g i) → sum_below f n ≤ sum_below g n
sum_below-le f g zero h = omega arith
sum_below-le f g (suc n) h = omega (arith, sum_below-le f g n (λ i l. h i (omega arith)), h n (omega arith))

pub faster_is_sooner : FasterIsSooner
faster_is_sooner r a b k s e h l =
    sum_below-le _ _ k (λ i m. omega (arith, upper_time-falls (step_at r i).metres (slice_index a i) (slice_index a (i + 1)) (slice_index b i) (slice_index b (i + 1)) (moves_of_drive r a s e i (omega arith)) (h i) (h (i + 1))))

pub faster_is_on_time : FasterIsOnTime
faster_is_on_time r a b s e h t = λ k d l.
    omega (arith, ints, t k d l, faster_is_sooner r a b (get_or r.timings k d).point s e h (s.timings k d l).1)

pub greatest_is_on_time : GreatestIsOnTime
greatest_is_on_time r n greatest s g = (λ some. faster_is_on_time r some.0 greatest s some.1.drive (g.above some.0 some.1) some.2, λ t. (greatest, g.drive, t))
