-- Where each cell has one speed, the least chain is a drive.
use Rattle.std.proofs.Common.{ℕ, zero, suc, ◌+◌, ◌-◌, ◌*◌, ◌<◌, ◌≤◌, ◌≡◌, refl, sym, ap, subst, arith, ◌∙◌, pos, get_or, Bool, true, false, All}
use Rattle.std.specs.Prelude.{ℤ, ◌+ℤ◌, ◌-ℤ◌, List, [], ◌∷◌, length, map, slice_index, Option, Some, None, MatchBool, if◌then◌else◌, option_map}
use Rattle.std.proofs.lemmas.Int.{ints}
use Rattle.std.proofs.lemmas.List.{get_or_default, length-map}
use Rattle.std.proofs.lemmas.List.Elements.{Contains-get_or}
use Rattle.bound_specs.specs.declared.Cell.{Cell}
use Rattle.rail_specs.specs.Rules.{Rules, step_at, is_stop, IsDrive}
use Rattle.rail_specs.specs.Step.{work}
use Rattle.rail_specs.specs.Times.{sum_below}
use Rattle.rail_specs.specs.Cost.{cost_of}
use Rattle.bound_specs.specs.Cells.{no_cell, cells_of, cell_at, single, AreSingle, RunFrom, CellsFit}
use Rattle.bound_specs.specs.Chains.{plus, cost_along, RunThrough}
use Rattle.bound_specs.specs.ChainValues.{IsChainValue}
use Rattle.bound_specs.specs.Prices.{step_price, priced_slack}
use Rattle.bound_specs.specs.Links.{Pricing, can_drive, priced_time, priced_cost, low_cost}
use Rattle.time_multipliers.specs.Steps.{StepsSumByParts}
use Rattle.chain_duality.proofs.Orders.{second_part}
use Rattle.link_costs.specs.PricedLaws.{can_drive-kept}
use Rattle.link_costs.specs.Soundness.{IsPricing}
use Rattle.link_costs.proofs.BoundLemmas.{step_time, drive_pays}
use Rattle.relaxed_costs.specs.Relaxed.{relaxed_cost, IsLeastRelaxed}
use Rattle.relaxed_costs.proofs.RelaxedLemmas.{relaxed_is, cells_rise, start_cell, value_below}

-- the first speeds of cells
abbrev speeds_of : List Cell → List ℕ
speeds_of chain = map (λ (a : Cell). a.first) chain

-- ---- chains of single cells

single_is : (a : Cell) → a.first ≡ a.last → a ≡ single a.first
single_is a e = ap (made a.first) (sym e)
  where
    made : ℕ → ℕ → Cell
    made first last = record { first = first; last = last }

-- a cell of a chain is one of its point's
contained : (cs : List Cell) (a : Cell) (P : Cell → Type 0) → All P cs → ((c : ℕ) × (c < length cs) × (get_or cs c a ≡ a)) → P a
contained cs a P all (c, lt, e) = subst P e (all c a lt)

-- a chain of single cells is its speeds
singles : (cells : List (List Cell)) (chain : List Cell) → AreSingle cells → RunThrough cells chain → chain ≡ map single (speeds_of chain)
singles [] [] one run = refl
singles [] (a ∷ chain) one run = absurd run
singles (cs ∷ cells) [] one run = absurd run
singles (cs ∷ cells) (a ∷ chain) one run =
    let here : a ≡ single a.first = single_is a (contained cs a (λ (b : Cell). b.first ≡ b.last) (one 0 [] (omega arith)) run.0) in
    let on : chain ≡ map single (speeds_of chain) = singles cells chain (λ k d lt. one (suc k) d (omega (arith, lt))) run.1 in
    cc

-- between single cells a link costs what the step does
along_single : (p : Pricing) (k : ℕ) (speeds : List ℕ) → cost_along (low_cost p) k (map single speeds) ≡ cost_along (priced_cost p) k speeds
along_single p k [] = refl
along_single p k (v ∷ []) = refl
along_single p k (v ∷ w ∷ rest) = ap (plus (low_cost p k (single v) (single w))) (along_single p (k + 1) (w ∷ rest))

-- ---- steps of a chain

first_part : (x y : Option ℤ) (q : ℤ) → plus x y ≡ Some q → (s : ℤ) × (x ≡ Some s)
first_part None y q e = absurd cc
first_part (Some s) y q e = (s, refl)

-- where the steps along a list cost something together, each of them does
each_step : (f : ℕ → ℕ → ℕ → Option ℤ) (k x : ℕ) (rest : List ℕ) (q : ℤ) → cost_along f k (x ∷ rest) ≡ Some q → (i : ℕ) → i < length rest
    → (s : ℤ) × (f (k + i) (slice_index (x ∷ rest) i) (slice_index rest i) ≡ Some s)
each_step f k x [] q e i lt = absurd (omega (arith, lt))
each_step f k x (y ∷ rest) q e zero lt =
    let first = first_part (f k x y) (cost_along f (k + 1) (y ∷ rest)) q e in
    let z : k ≡ k + 0 = omega arith in
    (first.0, subst (λ (m : ℕ). f m x y ≡ Some first.0) z first.1)
each_step f k x (y ∷ rest) q e (suc i) lt =
    let behind = second_part (f k x y) (cost_along f (k + 1) (y ∷ rest)) q e in
    let on = each_step f (k + 1) y rest behind.0 behind.1 i (omega (arith, lt)) in
    let n : k + 1 + i ≡ k + suc i = omega arith in
    (on.0, subst (λ (m : ℕ). f m (slice_index (y ∷ rest) i) (slice_index rest i) ≡ Some on.0) n on.1)

is_there : (x : Bool) (q s : ℤ) → (if x then Some q else None) ≡ Some s → x ≡ true
is_there true q s e = refl
is_there false q s e = absurd cc

-- a step that costs something can be driven
drivable : (p : Pricing) (i v w : ℕ) (s : ℤ) → priced_cost p i v w ≡ Some s → can_drive p.rules i v w ≡ true
drivable p i v w s e = is_there (can_drive p.rules i v w) (p.cost (work (step_at p.rules i) v w) +ℤ pos (priced_time p i v w)) s e

-- ---- the drive

run_length : (cells : List (List Cell)) (chain : List Cell) → RunThrough cells chain → length chain ≡ length cells
run_length [] [] run = refl
run_length [] (a ∷ chain) run = absurd run
run_length (cs ∷ cells) [] run = absurd run
run_length (cs ∷ cells) (a ∷ chain) run = omega (arith, run_length cells chain run.1)

-- each speed of a chain is the first of a cell of its point
speed_in : (cells : List (List Cell)) (chain : List Cell) (k : ℕ) → RunThrough cells chain → k < length cells
    → (c : ℕ) × (c < length (cells_of cells k)) × (slice_index (speeds_of chain) k ≡ (cell_at cells k c).first)
speed_in [] chain k run lt = absurd (omega (arith, lt))
speed_in (cs ∷ cells) [] k run lt = absurd run
speed_in (cs ∷ cells) (a ∷ chain) zero run lt =
    let c : ℕ = run.0.0 in
    (c, run.0.1, ap (λ (b : Cell). b.first) (sym (get_or_default cs c no_cell a run.0.1 ∙ run.0.2)))
speed_in (cs ∷ cells) (a ∷ chain) (suc k) run lt = speed_in cells chain k run.1 (omega (arith, lt))

passed_between : (stop : Bool) (low v high : ℕ) → MatchBool stop (low ≡ 0) (1 ≤ low) → MatchBool stop (high ≡ 0) (1 ≤ high) → low ≤ v → v ≤ high
    → MatchBool stop (v ≡ 0) (1 ≤ v)
passed_between true low v high l h a b = omega (arith, h, b)
passed_between false low v high l h a b = omega (arith, l, a)

-- a speed of a cell lies between the least and the greatest of its point
speed_between : (least greatest : ℕ) (cs : List Cell) (c : ℕ) → RunFrom least greatest cs → c < length cs
    → (least ≤ (get_or cs c no_cell).first) × ((get_or cs c no_cell).first ≤ greatest)
speed_between least greatest cs c h lt =
    let low = cells_rise cs 0 c h.adjacent (omega arith) lt in
    let high = cells_rise cs c (length cs - 1) h.adjacent (omega (arith, lt)) (omega (arith, lt)) in
    let cell = h.adjacent.cells c lt in
    (omega (arith, low.0, h.first), omega (arith, high.1, h.last, cell.0))

-- speeds that run through cells that fit, each step of which can be driven, are a drive
chain_drive : (p : Pricing) (cells : List (List Cell)) (a : Cell) (chain : List Cell) (q : ℤ) → CellsFit p.rules cells → RunThrough cells (a ∷ chain)
    → cost_along (priced_cost p) 0 (speeds_of (a ∷ chain)) ≡ Some q → IsDrive p.rules (speeds_of (a ∷ chain))
chain_drive p cells a chain q (least, greatest, h) run e =
    let r : Rules = p.rules in
    let d : List ℕ = speeds_of (a ∷ chain) in
    let count : length d ≡ length r.steps + 1 = length-map (a ∷ chain) (λ (b : Cell). b.first) ∙ run_length cells (a ∷ chain) run ∙ h.points in
    let low = h.ranges.least.drive.drive in
    let high = h.ranges.greatest.drive.drive in
    let between : (k : ℕ) → k ≤ length r.steps → (slice_index least k ≤ slice_index d k) × (slice_index d k ≤ slice_index greatest k) =
    λ k le.
    let at = speed_in cells (a ∷ chain) k run (omega (arith, le, h.points)) in
    let b = speed_between (slice_index least k) (slice_index greatest k) (cells_of cells k) at.0 (h.run k le) at.1 in
    (omega (arith, b.0, at.2), omega (arith, b.1, at.2)) in
    record {
      count = count;
      start = (let b = between 0 (omega arith) in omega (arith, b.0, b.1, low.start, high.start));
      points = λ k some lt.
          let b = between k (omega (arith, lt, count)) in
          passed_between (is_stop r k) (slice_index least k) (slice_index d k) (slice_index greatest k)
          (low.points k some (omega (arith, lt, count, low.count))) (high.points k some (omega (arith, lt, count, high.count))) b.0 b.1;
      steps = λ i lt.
          let n : i + 1 ≡ suc i = omega arith in
          let z : 0 + i ≡ i = omega arith in
          let step = each_step (priced_cost p) 0 a.first (speeds_of chain) q e i (omega (arith, lt, count)) in
          (can_drive-kept r i (slice_index d i) (slice_index d (i + 1))
          (subst (λ (m : ℕ). can_drive r i (slice_index d i) (slice_index d m) ≡ true) (sym n)
          (drivable p i (slice_index d i) (slice_index (speeds_of chain) i) step.0
          (subst (λ (m : ℕ). priced_cost p m (slice_index d i) (slice_index (speeds_of chain) i) ≡ Some step.0) z step.1)))).1;
    }

-- the chain value is the least relaxed cost
pub value_single : (p : Pricing) (cells : List (List Cell)) (value : ℤ) → IsPricing p → StepsSumByParts p.prices → CellsFit p.rules cells → AreSingle cells
    → IsChainValue p cells (Some value) → IsLeastRelaxed p value
value_single p [] value sound parts fit one is = absurd (let start = start_cell p.rules [] fit in omega (arith, start))
value_single p (cs ∷ cells) value sound parts fit one (None, least, e) = absurd cc
value_single p (cs ∷ cells) value sound parts fit one (Some q, least, e) =
    let start = start_cell p.rules (cs ∷ cells) fit in
    let a : Cell = cell_at (cs ∷ cells) 0 0 in
    let chain : List Cell = least.attained.0 in
    let run : RunThrough (cs ∷ cells) (a ∷ chain) = (Contains-get_or cs 0 no_cell (omega (arith, start)), least.attained.1) in
    let d : List ℕ = speeds_of (a ∷ chain) in
    let same : a ∷ chain ≡ map single d = singles (cs ∷ cells) (a ∷ chain) one run in
    let costs : cost_along (priced_cost p) 0 d ≡ Some q = sym (along_single p 0 d) ∙ ap (cost_along (low_cost p) 0) (sym same) ∙ least.attained.2 in
    let drive = chain_drive p (cs ∷ cells) a chain q fit run costs in
    let pays = drive_pays p a.first (speeds_of chain) sound.shaped drive in
    let paid : ℤ = cost_of p.cost p.rules d +ℤ pos (sum_below (λ i. step_price p.prices i * step_time p.rules d i) (length p.rules.steps)) in
    let equal : q ≡ paid = (let both : Some q ≡ Some paid = sym costs ∙ pays in cc) in
    let value_is : value ≡ q -ℤ priced_slack p.rules p.prices = cc in
    record {
      attained = (d, drive, value_is ∙ ap (λ (x : ℤ). x -ℤ priced_slack p.rules p.prices) equal ∙ sym (relaxed_is p d sound.shaped sound.timings parts));
      below = λ speeds other. value_below p (cs ∷ cells) (Some value) speeds sound parts fit (Some q, least, e) other;
    }
