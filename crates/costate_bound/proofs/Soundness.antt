-- Why the bound by costates is a bound.
use Rattle.std.proofs.Common.{ℕ, zero, suc, ◌≡◌, ◌+◌, ◌*◌, ◌/◌, ◌<◌, ◌≤◌, ◌^◌, ap, arith, add-one}
use Rattle.std.specs.Prelude.{ℤ, pos, negsuc, neg_ℤ, ◌+ℤ◌, ◌-ℤ◌, ◌*ℤ◌, ◌≤ℤ◌, List, length, slice_index}
use Rattle.std.specs.Int.{int_div_euclid}
use Rattle.std.proofs.lemmas.Int.{ints}
use Rattle.std.proofs.lemmas.Bool.Decides.{nat_tests}
use Rattle.std.proofs.Math.Nat.{div-mul-le_self, min-le_right}
use Rattle.rail_specs.specs.Step.{work, work_up, work_down, lower_time}
use Rattle.rail_specs.specs.Rules.{step_at, work_at, traction_work, brake_work, IsStepKept, IsDrive, IsNarrowDrive}
use Rattle.rail_specs.specs.Ranges.{AreRanges, no_narrowing}
use Rattle.rail_specs.specs.Cost.{int_sum_below, IsBound}
use Rattle.rail_specs.proofs.WorkLemmas.{work_parts}
use Rattle.bound_specs.specs.Prices.{step_price}
use Rattle.time_multipliers.specs.Steps.{StepsSumByParts}
use Rattle.drive_rules.proofs.DriveLemmas.{moves_of_drive, top_of_drive}
use Rattle.link_costs.proofs.BoundLemmas.{step_time, sum-parts, time_pays}
use Rattle.costate_bound.specs.Costs.{CoversWork}
use Rattle.costate_bound.specs.Relaxation.{Relaxation, IsRelaxation, costate_at, above_full, below_share, tangent_point, slope, exit_part, entry_part, rest, part_before, part_behind, point_part, least_part, least_sum, costate_bound}
use Rattle.costate_bound.proofs.Sums.{least_between, sums_below, sums_same, sums_apart, sums_times}
use Rattle.costate_bound.proofs.Inequalities.{work_charge, charge-apart, time_charge}

-- ---- one step

-- the charges of a step are at most its cost and its priced time, by plain numbers: s the costate, a and b the parts of its work, c its cost, t and
-- h what forces take off, m the slope, v and w the speeds, p the price, k the time
together : (sa sb sw c : ℤ) (t h m v w e p k : ℕ) → sw ≡ sa -ℤ sb → sw ≤ℤ ((pos 64000 *ℤ c) +ℤ pos (t + h)) → 2 * m * e ≤ p * k + p + m * (v + w) →
    (((sa -ℤ pos (t + 64000 * m * w)) +ℤ (neg_ℤ sb -ℤ pos (h + 64000 * m * v))) +ℤ (pos 64000 *ℤ (pos (2 * m * e) -ℤ pos p)))
    ≤ℤ (pos 64000 *ℤ (c +ℤ pos (p * k)))
together sa sb sw c t h m v w e p k is work time = omega (arith, ints, is, work, time)

-- the charges of step i at speeds v and w
abbrev charges : Relaxation → ℕ → ℕ → ℕ → ℤ
charges x i v w = (exit_part x i w +ℤ entry_part x i v) +ℤ rest x i

-- what a step costs, with its time priced
abbrev paid : (ℤ → ℤ) → Relaxation → ℕ → ℕ → ℕ → ℤ
paid cost x i v w = cost (work (step_at x.rules i) v w) +ℤ pos (step_price x.prices i * lower_time (step_at x.rules i).metres v w)

step_charges : (cost : ℤ → ℤ) (x : Relaxation) (i v w : ℕ) → IsRelaxation x → CoversWork x.share cost → i < length x.rules.steps → 1 ≤ v + w → IsStepKept x.rules i v w →
    charges x i v w ≤ℤ (pos 64000 *ℤ paid cost x i v w)
step_charges cost x i v w s covers l moving kept =
    let r = x.rules in
    let n = step_at r i in
    let done : ℤ = work n v w in
    let parts : done ≡ work_up n w -ℤ pos (work_down n v) = work_parts n v w (s.shaped.small_drag i l) in
    let apart : (costate_at x i *ℤ done) ≡ ((costate_at x i *ℤ work_up n w) -ℤ (costate_at x i *ℤ pos (work_down n v))) =
    charge-apart (costate_at x i) (work_up n w) done (work_down n v) parts in
    let charged = work_charge x.share (costate_at x i) done (cost done) (traction_work r i w) (brake_work r i v) (covers.work done) (covers.returned done) kept.traction kept.brake in
    let timed = time_charge (200000 * n.metres) (step_price x.prices i) (v + w) (tangent_point x i) (slope x i) moving
    (min-le_right (2 ^ 46) (200000 * n.metres * step_price x.prices i / (tangent_point x i * tangent_point x i))) in
    together (costate_at x i *ℤ work_up n w) (costate_at x i *ℤ pos (work_down n v)) (costate_at x i *ℤ done) (cost done)
    (above_full (costate_at x i) * traction_work r i w) (below_share x.share (costate_at x i) * brake_work r i v) (slope x i) v w (tangent_point x i) (step_price x.prices i)
    (lower_time n.metres v w) apart charged timed

-- ---- all points

-- what the steps charge the points behind them
befores : (x : Relaxation) (d : ℕ → ℕ) (n : ℕ) → int_sum_below (λ k. part_before x k (d k)) (suc n) ≡ int_sum_below (λ i. exit_part x i (d (i + 1))) n
befores x d zero = omega (arith, ints)
befores x d (suc n) =
    let e : suc n ≡ n + 1 = omega arith in
    let at : exit_part x n (d (suc n)) ≡ exit_part x n (d (n + 1)) = ap (λ (k : ℕ). exit_part x n (d k)) e in
    omega (arith, ints, befores x d n, at)

inside : (x : Relaxation) (k v : ℕ) → k < length x.rules.steps → part_behind x k v ≡ entry_part x k v
inside x k v l = grind (arith, nat_tests)

outside : (x : Relaxation) (v : ℕ) → part_behind x (length x.rules.steps) v ≡ pos 0
outside x v = grind (arith, nat_tests)

-- each speed meets its two charges at its point
points_are_steps : (x : Relaxation) (d : ℕ → ℕ) →
    int_sum_below (λ k. point_part x k (d k)) (suc (length x.rules.steps)) ≡ int_sum_below (λ i. exit_part x i (d (i + 1)) +ℤ entry_part x i (d i)) (length x.rules.steps)
points_are_steps x d =
    let n = length x.rules.steps in
    let points = sums_apart (λ k. part_before x k (d k)) (λ k. part_behind x k (d k)) (suc n) in
    let steps = sums_apart (λ i. exit_part x i (d (i + 1))) (λ i. entry_part x i (d i)) n in
    let behind = sums_same (λ k. part_behind x k (d k)) (λ k. entry_part x k (d k)) n (λ k l. inside x k (d k) l) in
    omega (arith, ints, points, steps, behind, befores x d n, outside x (d n))

-- ---- the bound

-- a quotient rounded down, times its divisor
rounded : (z : ℤ) → (pos 64000 *ℤ int_div_euclid z (pos 64000)) ≤ℤ z
rounded (pos n) = omega (arith, ints, div-mul-le_self n 64000)
rounded (negsuc n) = omega (arith, ints)

divided : (z q : ℤ) → z ≤ℤ (pos 64000 *ℤ q) → int_div_euclid z (pos 64000) ≤ℤ q
divided z q h = omega (arith, ints, h, rounded z)

-- the least charges are at most what a drive pays for its work and its time, by the full costate
least_is_paid : (cost : ℤ → ℤ) (x : Relaxation) (least greatest d : List ℕ) → IsRelaxation x → CoversWork x.share cost → AreRanges x.rules no_narrowing least greatest →
    IsDrive x.rules d → least_sum x least greatest ≤ℤ (pos 64000 *ℤ int_sum_below (λ i. paid cost x i (slice_index d i) (slice_index d (i + 1))) (length x.rules.steps))
least_is_paid cost x least greatest d s covers a drive =
    let n = length x.rules.steps in
    let narrow : IsNarrowDrive x.rules no_narrowing d = record { drive = drive; cap = λ k. omega (arith, top_of_drive x.rules d s.shaped drive k, s.shaped.top); idle = λ i h g l. absurd (omega (arith, h, g)) } in
    let lower : (k : ℕ) → slice_index least k ≤ slice_index d k = a.least.below d narrow in
    let higher : (k : ℕ) → slice_index d k ≤ slice_index greatest k = a.greatest.above d narrow in
    let points = sums_below (least_part x least greatest) (λ k. point_part x k (slice_index d k)) (suc n)
    (λ k l. least_between (point_part x k) (slice_index least k) (slice_index greatest k) (slice_index d k) (lower k) (higher k)) in
    let moves = moves_of_drive x.rules d s.shaped drive in
    let steps = sums_below (λ i. charges x i (slice_index d i) (slice_index d (i + 1))) (λ i. pos 64000 *ℤ paid cost x i (slice_index d i) (slice_index d (i + 1))) n
    (λ i l. step_charges cost x i (slice_index d i) (slice_index d (i + 1)) s covers l (moves i l) (drive.steps i l)) in
    let apart = sums_apart (λ i. exit_part x i (slice_index d (i + 1)) +ℤ entry_part x i (slice_index d i)) (rest x) n in
    let times = sums_times (λ i. paid cost x i (slice_index d i) (slice_index d (i + 1))) n in
    let count : int_sum_below (least_part x least greatest) (n + 1) ≡ int_sum_below (least_part x least greatest) (suc n) = ap (int_sum_below (least_part x least greatest)) (add-one n) in
    omega (arith, ints, points, steps, apart, times, count, points_are_steps x (slice_index d))

-- no drive on time costs less
pub bound_holds : (x : Relaxation) (least greatest : List ℕ) → IsRelaxation x → StepsSumByParts x.prices → AreRanges x.rules no_narrowing least greatest →
    (cost : ℤ → ℤ) → CoversWork x.share cost → IsBound cost x.rules (costate_bound x least greatest)
bound_holds x least greatest s parts a cost covers d drive on_time =
    let n = length x.rules.steps in
    let pays = divided (least_sum x least greatest) (int_sum_below (λ i. paid cost x i (slice_index d i) (slice_index d (i + 1))) n)
    (least_is_paid cost x least greatest d s covers a drive) in
    let apart = sum-parts (λ i. cost (work_at x.rules d i)) (λ i. step_price x.prices i * step_time x.rules d i) n in
    omega (arith, ints, pays, apart, time_pays x.rules x.prices d s.shaped s.timings parts on_time)
