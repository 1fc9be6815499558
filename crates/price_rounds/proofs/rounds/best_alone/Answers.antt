use Rattle.std.proofs.Common.{ℕ, ◌≡◌, ◌∙◌, List, length, replicate, inl, inr, sym, ap, subst, arith}
use Rattle.std.specs.Prelude.{ℤ, map}
use Rattle.std.proofs.lemmas.Bool.{cases_eq}
use Rattle.rail_specs.specs.declared.Timing.{Timing}
use Rattle.rail_specs.specs.Rules.{Rules}
use Rattle.bound_specs.specs.declared.Cell.{Cell}
use Rattle.bound_specs.specs.ChainValues.{IsChainValue, IsBestPrice, price_set}
use Rattle.bound_specs.specs.Prices.{Prices, AreFor}
use Rattle.potential_table.specs.declared.price_search.Valued.{Valued}
use Rattle.price_rounds.specs.Rounds.{pricing, BeatsPriceOf, no_prices}
use Rattle.price_rounds.proofs.AloneLemmas.{made, valued_by, one_valued, best_beats, beats_on}
use Rattle.price_rounds.proofs.rounds.best_alone.Goals as goal

-- a slice of as many zeros as there are timing points
zeros_are : (slice items : List ℕ) (read timings : List Timing) → slice ≡ items → items ≡ replicate (length read) 0 → read ≡ timings → slice ≡ replicate (length timings) 0
zeros_are slice items read timings same zero is = same ∙ zero ∙ ap (λ (ts : List Timing). replicate (length ts) 0) is

-- the prices that the search begins with are price 0 for each timing point
zero_prices : (r : Rules) (none : Prices) (zeros : List ℕ) → AreFor r none → none.values ≡ zeros → zeros ≡ replicate (length r.timings) 0 → none ≡ no_prices r
zero_prices r none zeros points values zero =
    ap (λ (ps : List ℕ). made ps none.values) points ∙ ap (made (map (λ (t : Timing). t.point) r.timings)) (values ∙ zero)

-- what is found for a timing point beats each price of it alone
found_beats : (cost : ℤ → ℤ) (r : Rules) (cells : List (List Cell)) (j q : ℕ) (none : Prices) (found : Valued) → none ≡ no_prices r → found.prices ≡ price_set none j q
    → IsBestPrice (pricing cost r found.prices) cells j → IsChainValue (pricing cost r found.prices) cells found.value → BeatsPriceOf cost r cells j found.value
found_beats cost r cells j q none found is put best value =
    best_beats cost r cells j q found.prices found.value (put ∙ ap (λ (p : Prices). price_set p j q) is) best value

pub loop-timing-init : goal.loop-timing-init
loop-timing-init g c =
    let cost : ℤ → ℤ = g.C.StepCost.cost c.args.cost.now in
    let found = c.in_ok-best.ensures in
    let best : Valued = c.in_ok-best.best in
    let zero = zeros_are c.as_slice.result.now c.in_ok-zeros.zeros.items c.timings.result.now c.args.rules.now.timings c.as_slice.ensures.value (c.in_ok-zeros.ensures.items_if_clones_equal (λ y e. e))
    c.timings.ensures.value in
    let is = zero_prices c.args.rules.now c.in_ok-none.none c.as_slice.result.now c.in_ok-none.ensures.timings c.in_ok-none.ensures.values zero in
    record {
      valued = valued_by cost c.args.rules.now c.args.cells.now 0 found.alone.0 c.in_ok-none.none best c.in_ok-none.ensures.timings found.alone.2 found.potentials found.value found.small;
      each = λ j lt.
          let first : 0 ≡ j = omega (arith, lt) in
          subst (λ k. BeatsPriceOf cost c.args.rules.now c.args.cells.now k best.value) first
          (found_beats cost c.args.rules.now c.args.cells.now 0 found.alone.0 c.in_ok-none.none best is found.alone.2 found.best found.value);
    }

pub loop-timing-preserved : goal.loop-timing-preserved
loop-timing-preserved g c =
    let cost : ℤ → ℤ = g.C.StepCost.cost c.args.cost.now in
    let found = c.in_ok-tried.ensures in
    let tried : Valued = c.in_ok-tried.tried in
    let now : Valued = c.better-best.result in
    let timing : ℕ = c.loop-timing.timing in
    let zero = zeros_are c.as_slice.result.now c.in_ok-zeros.zeros.items c.timings.result.now c.args.rules.now.timings c.as_slice.ensures.value (c.in_ok-zeros.ensures.items_if_clones_equal (λ y e. e))
    c.timings.ensures.value in
    let is = zero_prices c.args.rules.now c.in_ok-none.none c.as_slice.result.now c.in_ok-none.ensures.timings c.in_ok-none.ensures.values zero in
    let tried_valued = valued_by cost c.args.rules.now c.args.cells.now timing found.alone.0 c.in_ok-none.none tried c.in_ok-none.ensures.timings found.alone.2 found.potentials found.value found.small in
    let beats = found_beats cost c.args.rules.now c.args.cells.now timing found.alone.0 c.in_ok-none.none tried is found.alone.2 found.best found.value in
    record {
      valued = one_valued cost c.args.rules.now c.args.cells.now c.loop-timing.best tried now c.loop-timing.invariant.valued tried_valued c.better-best.ensures.one;
      each = λ j lt. elim (cases_eq j timing) [
        | inl same ↦ subst (λ k. BeatsPriceOf cost c.args.rules.now c.args.cells.now k now.value) (sym same)
            (beats_on cost c.args.rules.now c.args.cells.now timing tried.value now.value beats c.better-best.ensures.above_second)
        | inr apart ↦ beats_on cost c.args.rules.now c.args.cells.now j c.loop-timing.best.value now.value
            (c.loop-timing.invariant.each j (omega (arith, lt, apart))) c.better-best.ensures.above_first
      ];
    }

pub returns-clause-each : goal.returns-clause-each
returns-clause-each g c = λ j lt. c.loop-timing.invariant.each j (omega (arith, lt, c.loop-timing-test.false, ap length c.timings-timing-end.ensures.value))
