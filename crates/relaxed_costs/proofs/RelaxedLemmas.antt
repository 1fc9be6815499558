-- A chain value is at most the relaxed cost of each drive.
use Rattle.std.proofs.Common.{ℕ, zero, suc, ◌+◌, ◌-◌, ◌*◌, ◌<◌, ◌≤◌, ◌≡◌, refl, sym, ap, subst, arith, ◌∙◌, pos, inl, inr, get_or, drop}
use Rattle.std.specs.Prelude.{ℤ, negsuc, ◌+ℤ◌, ◌-ℤ◌, ◌*ℤ◌, ◌≤ℤ◌, List, [], ◌∷◌, length, slice_index, Option, Some, option_map}
use Rattle.std.proofs.lemmas.Int.{ints}
use Rattle.std.proofs.lemmas.Bool.{cases_lt}
use Rattle.std.proofs.lemmas.List.Elements.{Contains-get_or}
use Rattle.std.proofs.Math.Nat.{add-mul}
use Rattle.bound_specs.specs.declared.Cell.{Cell}
use Rattle.rail_specs.specs.Rules.{Rules, timing_at, no_timing, IsDrive}
use Rattle.rail_specs.specs.Times.{sum_below, slack_of}
use Rattle.rail_specs.specs.Cost.{int_sum_below, cost_of, IsBound}
use Rattle.bound_specs.specs.Cells.{no_cell, cells_of, cell_at, IsCell, HasSpeed, RunInside, AreAdjacent, RunFrom, CellsFit}
use Rattle.bound_specs.specs.Chains.{IsAtMost, cost_along, RunThrough}
use Rattle.bound_specs.specs.ChainValues.{IsChainValue}
use Rattle.bound_specs.specs.Prices.{AreFor, step_price, priced_slack}
use Rattle.bound_specs.specs.Links.{Pricing, priced_cost, low_cost}
use Rattle.time_multipliers.specs.Steps.{StepsSumByParts}
use Rattle.rule_parts.specs.Shaped.{IsShaped}
use Rattle.speed_cells.proofs.Covering.{fitting_cover}
use Rattle.chain_duality.proofs.Lists.{AreCellsOfPoints}
use Rattle.chain_duality.proofs.Orders.{at_most-refl, at_most-trans, plus_rises}
use Rattle.link_costs.specs.PricedLaws.{priced_costs}
use Rattle.link_costs.specs.Soundness.{IsPricing}
use Rattle.link_costs.proofs.BoundLemmas.{sum-apart, step_time, drive_pays, timing_count, point_is, time_pays}
use Rattle.potential_table.proofs.PriceLines.{sum_same, times_more}
use Rattle.potential_table.proofs.ChainLemmas.{less_same}
use Rattle.relaxed_costs.specs.Relaxed.{lateness, relaxed_cost}

-- ---- relaxed costs

times_none : (s : ℤ) → pos 0 *ℤ s ≡ pos 0
times_none (pos s) = omega (arith, ints)
times_none (negsuc s) = omega (arith, ints)

-- what a price charges for lateness is what it charges for the time less what it charges for the slack
late_charge : (value time : ℕ) (slack late : ℤ) → late ≡ pos time -ℤ slack → pos value *ℤ late ≡ pos (value * time) -ℤ (pos value *ℤ slack)
late_charge zero time slack late e = omega (arith, ints, times_none late, times_none slack)
late_charge (suc q) time slack late e =
    let n : q + 1 ≡ suc q = omega arith in
    subst (λ (m : ℕ). pos m *ℤ late ≡ pos (m * time) -ℤ (pos m *ℤ slack)) n
    (omega (arith, ints, times_more q late, times_more q slack, late_charge q time slack late e, add-mul q 1 time, e))

-- the same of sums
late_charges : (values : List ℕ) (times : ℕ → ℕ) (slacks lates : ℕ → ℤ) (n : ℕ) → ((j : ℕ) → lates j ≡ pos (times j) -ℤ slacks j)
    → int_sum_below (λ j. pos (slice_index values j) *ℤ lates j) n
    ≡ pos (sum_below (λ j. slice_index values j * times j) n) -ℤ int_sum_below (λ j. pos (slice_index values j) *ℤ slacks j) n
late_charges values times slacks lates zero e = omega (arith, ints)
late_charges values times slacks lates (suc n) e =
    omega (arith, ints, late_charges values times slacks lates n e, late_charge (slice_index values n) (times n) (slacks n) (lates n) (e n))

-- lateness is the time of the steps less the slack
lateness_is : (r : Rules) (d : List ℕ) (j : ℕ) → lateness r d j ≡ pos (sum_below (step_time r d) (timing_at r j).point) -ℤ slack_of r j
lateness_is r d j = let parts = sum-apart (slice_index r.dwells) (step_time r d) (timing_at r j).point in omega (arith, ints, parts)

-- a relaxed cost is what the drive pays for work and time, less the priced slack
pub relaxed_is : (p : Pricing) (d : List ℕ) → IsShaped p.rules → AreFor p.rules p.prices → StepsSumByParts p.prices
    → relaxed_cost p d ≡ (cost_of p.cost p.rules d +ℤ pos (sum_below (λ i. step_price p.prices i * step_time p.rules d i) (length p.rules.steps))) -ℤ priced_slack p.rules p.prices
relaxed_is p d s a parts =
    let r : Rules = p.rules in
    let time : ℕ → ℕ = λ j. sum_below (step_time r d) (timing_at r j).point in
    let count = timing_count r p.prices a in
    let inside : (j : ℕ) → j < length p.prices.points → slice_index p.prices.points j ≤ length r.steps =
    λ j l.
    let e = point_is r p.prices j a (omega (arith, count, l)) in
    let within = s.timings j no_timing (omega (arith, count, l)) in
    omega (arith, e, within.1) in
    let moved = parts (step_time r d) (length r.steps) inside in
    let same = sum_same (λ j. slice_index p.prices.values j * sum_below (step_time r d) (slice_index p.prices.points j)) (λ j. slice_index p.prices.values j * time j) (length p.prices.points)
    (λ j l. ap (λ (k : ℕ). slice_index p.prices.values j * sum_below (step_time r d) k) (point_is r p.prices j a (omega (arith, count, l)))) in
    let charges = subst (λ (n : ℕ). int_sum_below (λ j. pos (slice_index p.prices.values j) *ℤ lateness r d j) (length r.timings)
    ≡ pos (sum_below (λ j. slice_index p.prices.values j * time j) n) -ℤ int_sum_below (λ j. pos (slice_index p.prices.values j) *ℤ slack_of r j) n) (sym count)
    (late_charges p.prices.values time (slack_of r) (lateness r d) (length r.timings) (lateness_is r d)) in
    omega (arith, ints, charges, moved, same)

-- ---- cells of a point

-- later cells have greater speeds
pub cells_rise : (cs : List Cell) (c n : ℕ) → AreAdjacent cs → c ≤ n → n < length cs
    → ((get_or cs c no_cell).first ≤ (get_or cs n no_cell).first) × ((get_or cs c no_cell).last ≤ (get_or cs n no_cell).last)
cells_rise cs c zero h le lt = let e : c ≡ 0 = omega (arith, le) in rw e (omega arith, omega arith)
cells_rise cs c (suc n) h le lt = elim (cases_lt c (suc n)) [
  | inl under ↦
      let n1 : n + 1 ≡ suc n = omega arith in
      let before = cells_rise cs c n h (omega (arith, under)) (omega (arith, lt)) in
      let next = subst (λ (m : ℕ). (get_or cs m no_cell).first ≡ (get_or cs n no_cell).last + 1) n1 (h.next n (omega (arith, lt))) in
      let here = h.cells n (omega (arith, lt)) in
      let there = h.cells (suc n) lt in
      (omega (arith, before.0, next, here.0), omega (arith, before.1, next, there.0))
  | inr ge ↦ let e : c ≡ suc n = omega (arith, le, ge) in rw e (omega arith, omega arith)
]

-- from one speed to the same there is one cell
one_cell : (v : ℕ) (cs : List Cell) → RunFrom v v cs → length cs ≡ 1
one_cell v cs h = elim (cases_lt 1 (length cs)) [
  | inl more ↦
      let end = cells_rise cs 1 (length cs - 1) h.adjacent (omega (arith, more)) (omega (arith, more)) in
      let next = h.adjacent.next 0 (omega (arith, more)) in
      let first = h.adjacent.cells 0 (omega (arith, more)) in
      let second = h.adjacent.cells 1 more in
      absurd (omega (arith, end.1, next, first.0, second.0, h.first, h.last))
  | inr few ↦ omega (arith, few, h.adjacent.some)
]

-- cells that fit have one cell at the first point
pub start_cell : (r : Rules) (cells : List (List Cell)) → CellsFit r cells → length (cells_of cells 0) ≡ 1
start_cell r cells (least, greatest, h) =
    let same : slice_index least 0 ≡ slice_index greatest 0 = h.ranges.least.drive.drive.start ∙ sym h.ranges.greatest.drive.drive.start in
    one_cell (slice_index greatest 0) (cells_of cells 0) (subst (λ (v : ℕ). RunFrom v (slice_index greatest 0) (cells_of cells 0)) same (h.run 0 (omega arith)))

-- their cells are intervals of speeds
pub fitting_cells : (r : Rules) (cells : List (List Cell)) → CellsFit r cells → AreCellsOfPoints cells
fitting_cells r cells (least, greatest, h) k c lt in_point = (h.run k (omega (arith, lt, h.points))).adjacent.cells c in_point

-- ---- chains round drives

-- speeds through cells lie in a chain of these cells, which costs no more
chain_round : (p : Pricing) (cells : List (List Cell)) (speeds : List ℕ) (k : ℕ) (a : Cell) (v : ℕ) → IsPricing p → AreCellsOfPoints cells → IsCell a → HasSpeed a v
    → RunInside cells speeds → k + length cells ≤ length p.rules.steps
    → (chain : List Cell) × RunThrough cells chain × IsAtMost (cost_along (low_cost p) k (a ∷ chain)) (cost_along (priced_cost p) k (v ∷ speeds))
chain_round p [] [] k a v sound known a_cell has run few = ([], tt, at_most-refl (Some (pos 0)))
chain_round p [] (w ∷ speeds) k a v sound known a_cell has run few = absurd run
chain_round p (cs ∷ cells) [] k a v sound known a_cell has run few = absurd run
chain_round p (cs ∷ cells) (w ∷ speeds) k a v sound known a_cell has run few =
    let c : ℕ = run.0.0 in
    let b : Cell = get_or cs c no_cell in
    let b_cell : IsCell b = known 0 c (omega arith) run.0.1 in
    let on = chain_round p cells speeds (k + 1) b w sound (λ j d lt in_point. known (suc j) d (omega (arith, lt)) in_point) b_cell run.0.2 run.1 (omega (arith, few)) in (
      b ∷ on.0,
      (Contains-get_or cs c no_cell run.0.1, on.1),
      plus_rises (low_cost p k a b) (priced_cost p k v w) (cost_along (low_cost p) (k + 1) (b ∷ on.0)) (cost_along (priced_cost p) (k + 1) (w ∷ speeds))
          ((priced_costs p sound).below k a b v w (omega (arith, few)) a_cell b_cell has run.0.2) on.2,
    )

-- the chain value is at most the relaxed cost of each drive
pub value_below : (p : Pricing) (cells : List (List Cell)) (value : Option ℤ) (d : List ℕ) → IsPricing p → StepsSumByParts p.prices → CellsFit p.rules cells
    → IsChainValue p cells value → IsDrive p.rules d → IsAtMost value (Some (relaxed_cost p d))
value_below p [] value d sound parts fit is drive = absurd (let one = start_cell p.rules [] fit in omega (arith, one))
value_below p (cs ∷ cells) value [] sound parts fit is drive = absurd (omega (arith, drive.count))
value_below p (cs ∷ cells) value (v ∷ speeds) sound parts fit is drive =
    let inside = fitting_cover p.rules (cs ∷ cells) sound.shaped.top fit (v ∷ speeds) drive in
    let one = start_cell p.rules (cs ∷ cells) fit in
    let known = fitting_cells p.rules (cs ∷ cells) fit in
    let first : inside.0.0 ≡ 0 = omega (arith, inside.0.1, one) in
    let has : HasSpeed (cell_at (cs ∷ cells) 0 0) v = subst (λ (k : ℕ). HasSpeed (cell_at (cs ∷ cells) 0 k) v) first inside.0.2 in
    let chain = chain_round p cells speeds 0 (cell_at (cs ∷ cells) 0 0) v sound (λ j d lt in_point. known (suc j) d (omega (arith, lt)) in_point) (known 0 0 (omega arith) (omega (arith, one)))
    has inside.1 (omega (arith, fit.2.points)) in
    let pays : ℤ = cost_of p.cost p.rules (v ∷ speeds) +ℤ pos (sum_below (λ i. step_price p.prices i * step_time p.rules (v ∷ speeds) i) (length p.rules.steps)) in
    let least : IsAtMost is.0 (Some pays) = at_most-trans is.0 (cost_along (low_cost p) 0 (cell_at (cs ∷ cells) 0 0 ∷ chain.0)) (Some pays) (is.1.below chain.0 chain.1)
    (subst (IsAtMost (cost_along (low_cost p) 0 (cell_at (cs ∷ cells) 0 0 ∷ chain.0))) (drive_pays p v speeds sound.shaped drive) chain.2) in
    subst (λ (q : ℤ). IsAtMost value (Some q)) (sym (relaxed_is p (v ∷ speeds) sound.shaped sound.timings parts))
    (subst (λ (q : Option ℤ). IsAtMost q (Some (pays -ℤ priced_slack p.rules p.prices))) (sym is.2) (less_same is.0 (Some pays) (priced_slack p.rules p.prices) least))

-- so it is a bound
pub value_bounds : (p : Pricing) (cells : List (List Cell)) (value : ℤ) → IsPricing p → StepsSumByParts p.prices → CellsFit p.rules cells
    → IsChainValue p cells (Some value) → IsBound p.cost p.rules value
value_bounds p cells value sound parts fit is d drive on_time =
    let below : value ≤ℤ relaxed_cost p d = value_below p cells (Some value) d sound parts fit is drive in
    omega (arith, ints, below, relaxed_is p d sound.shaped sound.timings parts, time_pays p.rules p.prices d sound.shaped sound.timings parts on_time)
