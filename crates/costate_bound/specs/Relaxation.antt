-- The bound by costates. Each step has a costate, which is what its work is charged: the part of the work that the exit speed decides
-- belongs to the point behind the step, that of the entry speed to the point before it, and the step's priced time is charged along a
-- tangent. So what a drive pays is at least the sum over the points of a part that one speed decides, and at least the sum of the least
-- parts. 64,000 is the full costate: at it work is charged what it costs where it is positive.
use Rattle.std.specs.Prelude.{ℕ, zero, suc, ◌+◌, ◌-◌, ◌*◌, ◌/◌, ◌^◌, ◌≤◌, ◌≡◌, min, max, ℤ, pos, negsuc, neg_ℤ, ◌+ℤ◌, ◌-ℤ◌, ◌*ℤ◌, List, length, slice_index, slice_index_or, if◌then◌else◌, nat_lt}
use Rattle.std.specs.Int.{int_min, int_div_euclid}
use Rattle.std.specs.Int.RustNames.{unsigned_abs}
use Rattle.rail_specs.specs.Step.{work_up, work_down}
use Rattle.rail_specs.specs.Rules.{Rules, step_at, traction_work, brake_work}
use Rattle.rail_specs.specs.Cost.{int_sum_below}
use Rattle.rule_parts.specs.Shaped.{IsShaped}
use Rattle.bound_specs.specs.Prices.{Prices, ArePrices, AreFor, step_price, priced_slack}

-- what a bound by costates is computed from
pub record Relaxation : Type 0 where
  -- the rules of the run
  pub rules : Rules
  -- the share of braking work that comes back, in per mille; a share above 1,000 counts as 1,000
  pub share : ℕ
  -- the prices of the timing points
  pub prices : Prices
  -- for each point the speed at which tangents are taken, cm/s: those of a drive near the best give the best bound
  pub speeds : List ℕ
  -- for each step its costate
  pub costates : List ℤ

-- there is a speed for each point and a costate for each step, none of them beyond 2^22, and the prices are those of the rules' timing points
pub record IsRelaxation (x : Relaxation) : Type 0 where
  pub shaped : IsShaped x.rules
  pub prices : ArePrices x.prices
  pub timings : AreFor x.rules x.prices
  pub speeds : length x.speeds ≡ length x.rules.steps + 1
  pub fast : (k : ℕ) → slice_index x.speeds k ≤ 65535
  pub costates : length x.costates ≡ length x.rules.steps
  pub small : (i : ℕ) → unsigned_abs (slice_index_or x.costates i (pos 0)) ≤ 2 ^ 22

-- the costate of step i
abbrev pub costate_at : Relaxation → ℕ → ℤ
costate_at x i = slice_index_or x.costates i (pos 0)

-- how far a costate lies above the full one
abbrev pub above_full : ℤ → ℕ
above_full (pos s) = s - 64000
above_full (negsuc s) = 0

-- how far a costate lies below that of the share that comes back
abbrev pub below_share : ℕ → ℤ → ℕ
below_share share (pos s) = 64 * min share 1000 - s
below_share share (negsuc s) = 64 * min share 1000 + suc s

-- the sum of the two speeds of step i at which the tangent of its time is taken, at least 1
abbrev pub tangent_point : Relaxation → ℕ → ℕ
tangent_point x i = max 1 (slice_index x.speeds i + slice_index x.speeds (i + 1))

-- how fast the priced time of step i falls there with the sum of its speeds: 200,000 metres times price, by the square of that sum, rounded
-- down, and at most 2^46
abbrev pub slope : Relaxation → ℕ → ℕ
slope x i =
    min (2 ^ 46) (((200000 * (step_at x.rules i).metres) * step_price x.prices i) / (tangent_point x i * tangent_point x i))

-- what step i charges its exit speed: its part of the work at the costate, less what is charged beyond the full costate of the most work that
-- traction does at that speed, and less the fall of the priced time
abbrev pub exit_part : Relaxation → ℕ → ℕ → ℤ
exit_part x i v =
    (costate_at x i *ℤ work_up (step_at x.rules i) v) -ℤ pos (above_full (costate_at x i) * traction_work x.rules i v + 64000 * slope x i * v)

-- what step i charges its entry speed: its part of the work at the costate, less what is charged short of the share of the most work that
-- brakes take at that speed, and less the fall of the priced time
abbrev pub entry_part : Relaxation → ℕ → ℕ → ℤ
entry_part x i v =
    neg_ℤ (costate_at x i *ℤ pos (work_down (step_at x.rules i) v)) -ℤ pos (below_share x.share (costate_at x i) * brake_work x.rules i v + 64000 * slope x i * v)

-- what step i charges whatever its speeds are: the priced time at the tangent's start, less a ms for its rounding
abbrev pub rest : Relaxation → ℕ → ℤ
rest x i = pos 64000 *ℤ (pos (2 * slope x i * tangent_point x i) -ℤ pos (step_price x.prices i))

-- what the step before point k charges speed v there, and what the step behind it does
abbrev pub part_before : Relaxation → ℕ → ℕ → ℤ
part_before x zero v = pos 0
part_before x (suc i) v = exit_part x i v

abbrev pub part_behind : Relaxation → ℕ → ℕ → ℤ
part_behind x k v = if nat_lt k (length x.rules.steps) then entry_part x k v else pos 0

-- what speed v at point k is charged
abbrev pub point_part : Relaxation → ℕ → ℕ → ℤ
point_part x k v = part_before x k v +ℤ part_behind x k v

-- the least of f first, f (first + 1) .. f (first + more)
abbrev pub least_from : (ℕ → ℤ) → ℕ → ℕ → ℤ
least_from f first zero = f first
least_from f first (suc more) = int_min (least_from f first more) (f (first + suc more))

-- the least that a speed at point k is charged, between the least and the greatest speed there
abbrev pub least_part : Relaxation → List ℕ → List ℕ → ℕ → ℤ
least_part x least greatest k =
    least_from (point_part x k) (slice_index least k) (slice_index greatest k - slice_index least k)

-- the sum of all charges, each point at its least
abbrev pub least_sum : Relaxation → List ℕ → List ℕ → ℤ
least_sum x least greatest =
    int_sum_below (least_part x least greatest) (length x.rules.steps + 1) +ℤ int_sum_below (rest x) (length x.rules.steps)

-- the bound, where drives have these least and greatest speeds: that sum by the full costate, rounded down, less what the prices charge for
-- the slack of the timing points
abbrev pub costate_bound : Relaxation → List ℕ → List ℕ → ℤ
costate_bound x least greatest = int_div_euclid (least_sum x least greatest) (pos 64000) -ℤ priced_slack x.rules x.prices
