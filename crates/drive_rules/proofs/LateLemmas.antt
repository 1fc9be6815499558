-- A drive that is nowhere faster arrives nowhere earlier.
use Rattle.std.proofs.Common.{ℕ, zero, suc, ◌<◌, ◌≤◌, ◌+◌, List, length, arith}
use Rattle.std.specs.Prelude.{slice_index}
use Rattle.std.proofs.lemmas.Int.{ints}
use Rattle.rail_specs.specs.Step.{upper_time}
use Rattle.rail_specs.specs.Rules.{Rules, IsDrive, step_at, timing_at, no_timing}
use Rattle.rail_specs.specs.Times.{sum_below, arrival_up, IsOnTimeUp, IsFirstLate}
use Rattle.rule_parts.specs.Shaped.{IsShaped}
use Rattle.drive_rules.proofs.DriveLemmas.{moves_of_drive}

-- more speed takes no more time over a step
abbrev pub Falls : Type 0
Falls = (m v0 v1 w0 w1 : ℕ) → 1 ≤ v0 + v1 → v0 ≤ w0 → v1 ≤ w1 → upper_time m w0 w1 ≤ upper_time m v0 v1

sum_below-le : (f g : ℕ → ℕ) (n : ℕ) → ((i : ℕ) → i < n → f i ≤ g i) → sum_below f n ≤ sum_below g n
sum_below-le f g zero h = omega arith
sum_below-le f g (suc n) h = omega (arith, sum_below-le f g n (λ i l. h i (omega arith)), h n (omega arith))

time_of_slower : (r : Rules) (d speeds : List ℕ) (k : ℕ) → Falls → IsShaped r → IsDrive r d → ((i : ℕ) → slice_index d i ≤ slice_index speeds i) → k ≤ length r.steps
    → arrival_up r speeds k ≤ arrival_up r d k
time_of_slower r d speeds k fall s e slow l =
    sum_below-le
    (λ i. slice_index r.dwells i + upper_time (step_at r i).metres (slice_index speeds i) (slice_index speeds (i + 1)))
    (λ i. slice_index r.dwells i + upper_time (step_at r i).metres (slice_index d i) (slice_index d (i + 1))) k
    (λ i m. omega (arith, fall (step_at r i).metres (slice_index d i) (slice_index d (i + 1)) (slice_index speeds i) (slice_index speeds (i + 1)) (moves_of_drive r d s e i (omega arith)) (slow i) (slow (i + 1))))

-- where a drive is late, one that is nowhere faster isn't on time
pub slower_is_late : (r : Rules) (d speeds : List ℕ) (j : ℕ) → Falls → IsShaped r → IsDrive r d → ((i : ℕ) → slice_index d i ≤ slice_index speeds i)
    → IsFirstLate r speeds j → IsOnTimeUp r d → ⊥
slower_is_late r d speeds j fall s e slow late on =
    let t = time_of_slower r d speeds (timing_at r j).point fall s e slow (s.timings j no_timing late.there).1 in
    omega (arith, ints, t, on j no_timing late.there, late.late)
