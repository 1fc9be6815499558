-- What the steps of a run pay at the prices of its timing points.
use Rattle.std.proofs.Common.{ℕ, zero, suc, ◌+◌, ◌*◌, ◌^◌, ◌<◌, ◌≤◌, ◌≡◌, ◌∙◌, min, List, [], ◌∷◌, ◌++◌, length, length-append, get_or, ap, sym, inl, inr, arith}
use Rattle.std.specs.Prelude.{slice_index}
use Rattle.std.proofs.Math.Seq.{get_or-append_seam}
use Rattle.std.proofs.Math.ListN.{get_or-append}
use Rattle.std.proofs.lemmas.Bool.{cases_lt}
use Rattle.std.proofs.lemmas.Bool.Decides.{nat_tests}
use Rattle.std.proofs.lemmas.List.{get_or_past}
use Rattle.bound_specs.specs.Prices.{Prices, ArePrices, SumsByParts, charge, step_price}
use Rattle.rail_specs.specs.Times.{sum_below}
use Rattle.time_multipliers.specs.Steps.{StepsSumByParts, AreKept}
use Rattle.time_multipliers.proofs.SumLemmas.{sum_below-same, sum_below-scale, sum_below-exchange, sum_below-past, sum_below-bound, sum_below-more}

-- a price charges its value for a step before its point
pub charge-before : (p : Prices) (j i : ℕ) → i < slice_index p.points j → charge p j i ≡ slice_index p.values j
charge-before p j i h = grind (arith, nat_tests)

-- and nothing for a step from its point on
pub charge-behind : (p : Prices) (j i : ℕ) → slice_index p.points j ≤ i → charge p j i ≡ 0
charge-behind p j i h = grind (arith, nat_tests)

-- a single price charges the n steps for the times before its point
pub charge-sum : (p : Prices) (t : ℕ → ℕ) (j n : ℕ) →
    sum_below (λ i. charge p j i * t i) n ≡ slice_index p.values j * sum_below t (min (slice_index p.points j) n)
charge-sum p t j zero = let e : min (slice_index p.points j) 0 ≡ 0 = omega arith in rw e (omega arith)
charge-sum p t j (suc n) = elim (cases_lt n (slice_index p.points j)) [
  | inl l ↦ (
      let e : min (slice_index p.points j) n ≡ n = omega arith in
      let f : min (slice_index p.points j) (suc n) ≡ suc n = omega arith in
      let s = rw e at (charge-sum p t j n) in
      rw (f, charge-before p j n l, s) (omega arith))
  | inr l ↦ (
      let e : min (slice_index p.points j) (suc n) ≡ min (slice_index p.points j) n = omega arith in
      rw (e, charge-behind p j n l, charge-sum p t j n) (omega arith))
]

-- what the n steps pay is what the timing points earn for the times before them, of these n steps
pub steps_pay : (p : Prices) (t : ℕ → ℕ) (n : ℕ) →
    sum_below (λ i. step_price p i * t i) n
    ≡ sum_below (λ j. slice_index p.values j * sum_below t (min (slice_index p.points j) n)) (length p.points)
steps_pay p t n =
    sum_below-same (λ i. step_price p i * t i) (λ i. sum_below (λ j. charge p j i * t i) (length p.points)) n
    (λ i _. sum_below-scale (λ j. charge p j i) (t i) (length p.points))
    ∙ sum_below-exchange (λ i j. charge p j i * t i) n (length p.points)
    ∙ sum_below-same (λ j. sum_below (λ i. charge p j i * t i) n)
    (λ j. slice_index p.values j * sum_below t (min (slice_index p.points j) n)) (length p.points)
    (λ j _. charge-sum p t j n)

-- sums by parts over times that are any function of the step, where no timing point lies behind the n steps
pub steps_sum_by_parts : (p : Prices) → StepsSumByParts p
steps_sum_by_parts p t n within =
    steps_pay p t n
    ∙ sum_below-same (λ j. slice_index p.values j * sum_below t (min (slice_index p.points j) n))
    (λ j. slice_index p.values j * sum_below t (slice_index p.points j)) (length p.points)
    (λ j k. let h = within j k in
    let e : min (slice_index p.points j) n ≡ slice_index p.points j = omega arith in
    ap (λ q. slice_index p.values j * sum_below t q) e)

-- sums by parts over a list of times: behind its end there are none
pub sums_by_parts : (p : Prices) → SumsByParts p
sums_by_parts p times =
    steps_pay p (slice_index times) (length times)
    ∙ sum_below-same (λ j. slice_index p.values j * sum_below (slice_index times) (min (slice_index p.points j) (length times)))
    (λ j. slice_index p.values j * sum_below (slice_index times) (slice_index p.points j)) (length p.points)
    (λ j _. ap (λ s. slice_index p.values j * s)
    (sum_below-past (slice_index times) (length times) (slice_index p.points j) (λ i h. get_or_past times i 0 h)))

-- no price charges more than its value
pub charge-low : (p : Prices) (j i : ℕ) → charge p j i ≤ slice_index p.values j
charge-low p j i = elim (cases_lt i (slice_index p.points j)) [
  | inl l ↦ omega (arith, charge-before p j i l)
  | inr l ↦ omega (arith, charge-behind p j i l)
]

-- the sum of a step's charges as far as j timing points, and one more, which lies behind the step
pub step_price-more : (p : Prices) (i j s : ℕ) → i < slice_index p.points j → s ≡ sum_below (λ k. charge p k i) j →
    s + slice_index p.values j ≡ sum_below (λ k. charge p k i) (j + 1)
step_price-more p i j s h e = rw (← charge-before p j i h) (sum_below-more (λ k. charge p k i) j s e)

-- the same, where that one does not lie behind the step
pub step_price-same : (p : Prices) (i j s : ℕ) → slice_index p.points j ≤ i → s ≡ sum_below (λ k. charge p k i) j →
    s ≡ sum_below (λ k. charge p k i) (j + 1)
step_price-same p i j s h e = omega (arith, charge-behind p j i h, sum_below-more (λ k. charge p k i) j s e)

-- how large a step's price is
pub step_price-small : (p : Prices) (i : ℕ) → ArePrices p → step_price p i ≤ 2 ^ 56
step_price-small p i h =
    omega (arith, h.few, sum_below-bound (λ j. charge p j i) (2 ^ 50) (length p.points) (λ j. omega (arith, charge-low p j i, h.low j)))

-- one more step's price kept ready
pub kept-push : (p : Prices) (by_step : List ℕ) (i x : ℕ) → AreKept p by_step → length by_step ≡ i → x ≡ step_price p i →
    AreKept p (by_step ++ x ∷ [])
kept-push p by_step i x h e g = record {
  prices = h.prices;
  ready = λ k l. elim (cases_lt k (length by_step)) [
    | inl a ↦ get_or-append by_step (x ∷ []) 0 k a ∙ h.ready k a
    | inr a ↦ (
        let l2 : k < length by_step + 1 = omega (arith, length-append by_step (x ∷ []), l) in
        let w : k ≡ length by_step = omega arith in
        ap (λ (j : ℕ). get_or (by_step ++ x ∷ []) j 0) w ∙ get_or-append_seam by_step x [] 0 ∙ g ∙ ap (λ j. step_price p j) (sym e ∙ sym w))
  ];
}
