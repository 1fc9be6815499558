-- What a drive on time pays at the prices, and so why potentials less the priced slack are a bound.
use Rattle.std.proofs.Common.{ℕ, zero, suc, ◌+◌, ◌*◌, ◌<◌, ◌≤◌, ◌≡◌, refl, sym, ap, subst, arith, ◌∙◌, ◌^◌, to_z, of_z}
use Rattle.std.specs.Int.{w128}
use Rattle.std.specs.Int.RustNames.{unsigned_abs}
use Rattle.std.specs.Prelude.{ℤ, pos, negsuc, true, ◌+ℤ◌, ◌-ℤ◌, ◌*ℤ◌, ◌≤ℤ◌, List, [], ◌∷◌, length, slice_index, Option, Some}
use Rattle.std.proofs.lemmas.Int.{ints}
use Rattle.std.proofs.lemmas.List.{get_or-map, length-map}
use Rattle.std.proofs.Math.Nat.{mul-le-mul_left}
use Rattle.bound_specs.specs.declared.Cell.{Cell}
use Rattle.rail_specs.specs.declared.Timing.{Timing}
use Rattle.rail_specs.specs.Step.{lower_time}
use Rattle.rail_specs.specs.Rules.{Rules, step_at, work_at, timing_at, no_timing, IsDrive}
use Rattle.rail_specs.specs.Times.{sum_below, arrival_down, slack_of, IsOnTimeDown}
use Rattle.rail_specs.specs.Cost.{int_sum_below, cost_of, IsBound}
use Rattle.bound_specs.specs.Cells.{cells_of, cell_at, HasSpeed, CellsCover}
use Rattle.bound_specs.specs.Chains.{IsAtMost, cost_along, values_of, value_at, WeakDuality}
use Rattle.bound_specs.specs.Prices.{Prices, ArePrices, AreFor, step_price, priced_slack}
use Rattle.bound_specs.specs.Links.{Pricing, can_drive, priced_cost, low_cost}
use Rattle.time_multipliers.specs.Steps.{StepsSumByParts}
use Rattle.rule_parts.specs.Shaped.{IsShaped}
use Rattle.link_costs.proofs.LinkLemmas.{some_if}
use Rattle.link_costs.specs.PricedLaws.{kept-can_drive, priced_costs}
use Rattle.bound_specs.specs.Feasible.{AreFeasible}
use Rattle.bound_specs.specs.Cells.{AreAdjacent}
use Rattle.link_costs.specs.Soundness.{IsPricing}
use Rattle.chain_duality.proofs.Duality.{weak_duality}

-- ---- sums

-- the first term of a sum, set apart
pub sum-first : (g : ℕ → ℤ) (n : ℕ) → int_sum_below g (suc n) ≡ g 0 +ℤ int_sum_below (λ i. g (i + 1)) n
sum-first g zero = omega (arith, ints)
sum-first g (suc n) =
    let e : suc n ≡ n + 1 = omega arith in
    let last : g (suc n) ≡ g (n + 1) = ap g e in
    omega (arith, ints, sum-first g n, last)

-- the costs along a list, where each of its steps costs what g says
pub along-sum : (f : ℕ → ℕ → ℕ → Option ℤ) (g : ℕ → ℤ) (k x : ℕ) (rest : List ℕ) →
    ((i : ℕ) → i < length rest → f (k + i) (slice_index (x ∷ rest) i) (slice_index (x ∷ rest) (i + 1)) ≡ Some (g i)) →
    cost_along f k (x ∷ rest) ≡ Some (int_sum_below g (length rest))
along-sum f g k x [] h = refl
along-sum f g k x (y ∷ rest) h =
    let first : f k x y ≡ Some (g 0) = subst (λ (m : ℕ). f m x y ≡ Some (g 0)) (let z : k + 0 ≡ k = omega arith in z) (h 0 (omega arith)) in
    let others : cost_along f (k + 1) (y ∷ rest) ≡ Some (int_sum_below (λ i. g (i + 1)) (length rest)) =
    along-sum f (λ i. g (i + 1)) (k + 1) y rest (λ i l.
    let later : k + suc i ≡ k + 1 + i = omega arith in
    let next : suc i + 1 ≡ suc (i + 1) = omega arith in
    let same : suc i ≡ i + 1 = omega arith in
    subst (λ (m : ℕ). f m (slice_index (y ∷ rest) i) (slice_index (y ∷ rest) (i + 1)) ≡ Some (g (i + 1))) later
    (subst (λ (m : ℕ). f (k + suc i) (slice_index (y ∷ rest) i) (slice_index (x ∷ y ∷ rest) m) ≡ Some (g (i + 1))) next
    (subst (λ (m : ℕ). f (k + suc i) (slice_index (y ∷ rest) i) (slice_index (x ∷ y ∷ rest) (suc i + 1)) ≡ Some (g m)) same (h (suc i) (omega (arith, l)))))) in
    rw first (rw others (ap Some (sym (sum-first g (length rest)))))

-- costs and times, summed apart
pub sum-parts : (c : ℕ → ℤ) (t : ℕ → ℕ) (n : ℕ) → int_sum_below (λ i. c i +ℤ pos (t i)) n ≡ int_sum_below c n +ℤ pos (sum_below t n)
sum-parts c t zero = omega (arith, ints)
sum-parts c t (suc n) = omega (arith, ints, sum-parts c t n)

pub sum-apart : (f g : ℕ → ℕ) (n : ℕ) → sum_below (λ i. f i + g i) n ≡ sum_below f n + sum_below g n
sum-apart f g zero = omega arith
sum-apart f g (suc n) = omega (arith, sum-apart f g n)

-- a price times a time is at most the price times the slack that the time keeps
price-keeps : (value time : ℕ) (slack : ℤ) → pos time ≤ℤ slack → pos (value * time) ≤ℤ (pos value *ℤ slack)
price-keeps value time (pos s) h =
    let l : time ≤ s = omega (arith, ints, h) in
    omega (arith, ints, mul-le-mul_left value l)
price-keeps value time (negsuc s) h = absurd (omega (arith, ints, h))

-- the same of sums
prices-keep : (values : List ℕ) (times : ℕ → ℕ) (slacks : ℕ → ℤ) (n : ℕ) → ((j : ℕ) → j < n → pos (times j) ≤ℤ slacks j) →
    pos (sum_below (λ j. slice_index values j * times j) n) ≤ℤ int_sum_below (λ j. pos (slice_index values j) *ℤ slacks j) n
prices-keep values times slacks zero h = omega (arith, ints)
prices-keep values times slacks (suc n) h =
    omega (arith, ints, prices-keep values times slacks n (λ j l. h j (omega (arith, l))), price-keeps (slice_index values n) (times n) (slacks n) (h n (omega arith)))

-- ---- drives

-- what the steps of a drive take, rounded down
abbrev pub step_time : Rules → List ℕ → ℕ → ℕ
step_time r d i = lower_time (step_at r i).metres (slice_index d i) (slice_index d (i + 1))

-- each step of a drive can be driven
pub drive_can : (r : Rules) (d : List ℕ) (i : ℕ) → IsShaped r → IsDrive r d → i < length r.steps → can_drive r i (slice_index d i) (slice_index d (i + 1)) ≡ true
drive_can r d i s drive l =
    let moving = s.moving i (slice_index d i) (slice_index d (i + 1)) l
    (λ e. subst (λ (k : ℕ). slice_index d k ≡ r.start) (sym e) drive.start)
    (λ some. drive.points i some (omega (arith, drive.count, l)))
    (drive.points (i + 1) (omega arith) (omega (arith, drive.count, l))) in
    kept-can_drive r i (slice_index d i) (slice_index d (i + 1)) moving (drive.steps i l)

-- what a drive pays for work and time
pub drive_pays : (p : Pricing) (v : ℕ) (speeds : List ℕ) → IsShaped p.rules → IsDrive p.rules (v ∷ speeds) →
    cost_along (priced_cost p) 0 (v ∷ speeds)
    ≡ Some (cost_of p.cost p.rules (v ∷ speeds) +ℤ pos (sum_below (λ i. step_price p.prices i * step_time p.rules (v ∷ speeds) i) (length p.rules.steps)))
drive_pays p v speeds s drive =
    let d : List ℕ = v ∷ speeds in
    let long : length speeds ≡ length p.rules.steps = omega (arith, drive.count) in
    let each : (i : ℕ) → i < length speeds → priced_cost p (0 + i) (slice_index d i) (slice_index d (i + 1)) ≡ Some (p.cost (work_at p.rules d i) +ℤ pos (step_price p.prices i * step_time p.rules d i)) =
    λ i l.
    let paid : ℤ = p.cost (work_at p.rules d i) +ℤ pos (step_price p.prices i * step_time p.rules d i) in
    let can = drive_can p.rules d i s drive (omega (arith, long, l)) in
    subst (λ (m : ℕ). priced_cost p m (slice_index d i) (slice_index d (i + 1)) ≡ Some paid) (let z : i ≡ 0 + i = omega arith in z)
    (sym (some_if (can_drive p.rules i (slice_index d i) (slice_index d (i + 1))) paid paid can refl)) in
    along-sum (priced_cost p) (λ i. p.cost (work_at p.rules d i) +ℤ pos (step_price p.prices i * step_time p.rules d i)) 0 v speeds each
    ∙ ap Some (ap (int_sum_below (λ i. p.cost (work_at p.rules d i) +ℤ pos (step_price p.prices i * step_time p.rules d i))) long
    ∙ sum-parts (λ i. p.cost (work_at p.rules d i)) (λ i. step_price p.prices i * step_time p.rules d i) (length p.rules.steps))

-- there are as many prices as timing points
pub timing_count : (r : Rules) (p : Prices) → AreFor r p → length p.points ≡ length r.timings
timing_count r p a = ap length a ∙ length-map r.timings (λ (t : Timing). t.point)

-- the timing points of prices are those of the rules
pub point_is : (r : Rules) (p : Prices) (j : ℕ) → AreFor r p → j < length r.timings → slice_index p.points j ≡ (timing_at r j).point
point_is r p j a l = rw a (get_or-map (λ (t : Timing). t.point) r.timings j no_timing 0 l)

-- a drive that is on time keeps the slack of each timing point
slack_kept : (r : Rules) (d : List ℕ) (j : ℕ) → IsOnTimeDown r d → j < length r.timings → pos (sum_below (step_time r d) (timing_at r j).point) ≤ℤ slack_of r j
slack_kept r d j t l =
    let on_time : pos (arrival_down r d (timing_at r j).point) ≤ℤ (timing_at r j).latest = t j no_timing l in
    let parts = sum-apart (slice_index r.dwells) (step_time r d) (timing_at r j).point in
    omega (arith, ints, on_time, parts)

-- what a drive that is on time pays for its time is at most the priced slack
pub time_pays : (r : Rules) (p : Prices) (d : List ℕ) → IsShaped r → AreFor r p → StepsSumByParts p → IsOnTimeDown r d →
    pos (sum_below (λ i. step_price p i * step_time r d i) (length r.steps)) ≤ℤ priced_slack r p
time_pays r p d s a parts t =
    let count = timing_count r p a in
    let inside : (j : ℕ) → j < length p.points → slice_index p.points j ≤ length r.steps =
    λ j l.
    let e = point_is r p j a (omega (arith, count, l)) in
    let within = s.timings j no_timing (omega (arith, count, l)) in
    omega (arith, e, within.1) in
    let moved = parts (step_time r d) (length r.steps) inside in
    let kept = prices-keep p.values (λ j. sum_below (step_time r d) (slice_index p.points j)) (slack_of r) (length p.points)
    (λ j l. subst (λ (k : ℕ). pos (sum_below (step_time r d) k) ≤ℤ slack_of r j) (sym (point_is r p j a (omega (arith, count, l)))) (slack_kept r d j t (omega (arith, count, l)))) in
    subst (λ (n : ℕ). pos n ≤ℤ priced_slack r p) (sym moved) kept

-- ---- the bound

-- where weak duality holds of cells that cover the rules, with one cell at the first point, its value less the priced slack is a bound
pub value_bounds : (p : Pricing) (cells : List (List Cell)) (values : List (List (Option ℤ))) (value : ℤ) → IsShaped p.rules → AreFor p.rules p.prices → StepsSumByParts p.prices →
    CellsCover p.rules cells → length (cells_of cells 0) ≡ 1 → WeakDuality (priced_cost p) cells values → value_at values 0 0 ≡ Some value →
    IsBound p.cost p.rules (value -ℤ priced_slack p.rules p.prices)
value_bounds p [] values value s a parts cover one dual is d drive t = absurd (omega (arith, one))
value_bounds p (cs ∷ cells) values value s a parts cover one dual is [] drive t = absurd (omega (arith, drive.count))
value_bounds p (cs ∷ cells) values value s a parts cover one dual is (v ∷ speeds) drive t =
    let inside = cover (v ∷ speeds) drive in
    let c : ℕ = inside.0.0 in
    let first : c ≡ 0 = omega (arith, inside.0.1, one) in
    let has : HasSpeed (cell_at (cs ∷ cells) 0 0) v = subst (λ (k : ℕ). HasSpeed (cell_at (cs ∷ cells) 0 k) v) first inside.0.2 in
    let least : IsAtMost (value_at values 0 0) (cost_along (priced_cost p) 0 (v ∷ speeds)) = dual 0 0 v speeds (omega arith) (omega (arith, one)) has inside.1 in
    let paid = subst (λ (q : Option ℤ). IsAtMost (value_at values 0 0) q) (drive_pays p v speeds s drive) least in
    let below = subst (λ (q : Option ℤ). IsAtMost q (Some (cost_of p.cost p.rules (v ∷ speeds) +ℤ pos (sum_below (λ i. step_price p.prices i * step_time p.rules (v ∷ speeds) i) (length p.rules.steps))))) is paid in
    omega (arith, ints, below, time_pays p.rules p.prices (v ∷ speeds) s a parts t)

-- so feasible values and prices give a bound
pub feasible_bounds : (p : Pricing) (cells : List (List Cell)) (values : List (List (Option ℤ))) (value : ℤ) → IsPricing p → StepsSumByParts p.prices → CellsCover p.rules cells
    → length cells ≡ length p.rules.steps + 1 → ((k : ℕ) → k < length cells → AreAdjacent (cells_of cells k)) → length (cells_of cells 0) ≡ 1 → AreFeasible (low_cost p) cells values
    → value_at values 0 0 ≡ Some value → IsBound p.cost p.rules (value -ℤ priced_slack p.rules p.prices)
feasible_bounds p cells values value s parts cover count adjacent one feasible is =
    value_bounds p cells values value s.shaped s.timings parts cover one
    (weak_duality (length p.rules.steps) (priced_cost p) (low_cost p) (priced_costs p s) cells count (λ k c l m. (adjacent k l).cells c m) values feasible) is
