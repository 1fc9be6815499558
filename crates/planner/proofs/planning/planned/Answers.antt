use Rattle.std.proofs.Common.{◌≡◌, ◌+◌, Some, arith, inl, inr, length, to_z, of_z}
use Rattle.std.specs.Prelude.{ℤ, ◌↔◌, ◌⊎◌, IsTrue}
use Rattle.rail_specs.specs.Cost.{GapMet}
use Rattle.bound_specs.specs.Cells.{cell_count, AreSingle}
use Rattle.std.proofs.lemmas.Int.{ints}
use mir.Syntax.{w128}
use Rattle.bound_specs.specs.ChainValues.{IsChainValue}
use Rattle.chain_duality.proofs.Orders.{at_most-trans}
use Rattle.price_rounds.specs.Rounds.{pricing, IsLastBest, BeatsAlone}
use Rattle.planner.proofs.WorkLemmas.{no_fewer, finer}
use Rattle.planner.proofs.planning.planned.Goals as goal

pub unreachable-requires : goal.unreachable-requires
unreachable-requires g c =
    let work = c.in_ok-work.ensures in
    rw c.in_default.is at (c.relaxed_costs_known.ensures.below (g.C.StepCost.cost c.args.cost.now) c.in_ok-work.work.cells c.in_ok-work.work.valued.value c.args.chosen.drive
    (g.met.C.StepCost.grows c.args.cost.now) (g.met.C.StepCost.within c.args.cost.now) work.valued.timings work.cells.fit work.valued.value c.requires.chosen.best.drive)

pub overflow_sub-splits : goal.overflow_sub-splits
overflow_sub-splits g c =
    omega (arith, c.points.ensures.value, c.count.ensures, no_fewer c.args.rules.now c.args.options.splits c.in_ok-work.work.cells c.in_ok-work.ensures.cells)

pub returns-clause-plan : goal.returns-clause-plan
returns-clause-plan g c =
    let cost : ℤ → ℤ = g.C.StepCost.cost c.args.cost.now in
    let r = c.args.rules.now in
    let cells = c.in_ok-work.work.cells in
    let prices = c.in_ok-work.work.valued.prices in
    let work = c.in_ok-work.ensures in
    let split = work.cells in
    let grows = g.met.C.StepCost.grows c.args.cost.now in
    let within = g.met.C.StepCost.within c.args.cost.now in
    let fewer = no_fewer r c.args.options.splits cells split in
    let small = rw c.in-Some.is at work.valued.small in
    let energy : to_z w128 (of_z w128 c.args.chosen.cost) ≡ c.args.chosen.cost = omega (arith, ints, c.requires.chosen.small) in
    let bound : to_z w128 (of_z w128 c.in-Some.bound) ≡ c.in-Some.bound = omega (arith, ints, small) in
    let value : IsChainValue (pricing cost r prices) cells (Some c.in-Some.bound) = rw c.in-Some.is at work.valued.value in
    let last : IsLastBest cost r cells prices (Some c.in-Some.bound) = rw c.in-Some.is at work.last in
    let alone : BeatsAlone cost r cells (Some c.in-Some.bound) = rw c.in-Some.is at work.alone in
    let met : IsTrue c.is_met.result ↔ GapMet c.args.chosen.cost c.in-Some.bound c.args.options.tolerance = rw (energy, bound) at c.is_met.ensures in
    let spent : (GapMet c.args.chosen.cost c.in-Some.bound c.args.options.tolerance → ⊥)
    → (cell_count cells ≡ length r.steps + 1 + c.args.options.splits) ⊎ AreSingle cells = rw (energy, c.in-Some.is) at work.spent in
    rw (energy, bound) (
      split.whole,
      split.even,
      split.times,
      record {
        best = c.requires.chosen.best;
        costs = c.requires.chosen.costs;
        small_cost = omega (arith, c.requires.chosen.small);
        small_bound = small;
        are_whole = split.are_whole;
        are_even = split.are_even;
        split = split.split;
        fit = split.fit;
        count = omega (arith, c.points.ensures.value, c.count.ensures, fewer, split.within, c.requires.splits);
        within = omega (arith, c.points.ensures.value, c.count.ensures, fewer, split.within, c.requires.splits);
        timings = work.valued.timings;
        potentials = work.valued.potentials;
        value = value;
        bounds = c.relaxed_costs_known.ensures.bounds cost cells c.in-Some.bound grows within work.valued.timings split.fit value;
        last = last;
        alone = alone;
        met = met;
        spent = λ unmet. elim (spent (λ gap. unmet (met.1 gap))) [
          | inl all ↦ inl (omega (arith, c.points.ensures.value, c.count.ensures, fewer, split.within, c.requires.splits, all))
          | inr one ↦ inr one
        ];
        inside = c.splits_known.ensures.inside split.even cells split.split;
        beats_even = λ ps v w are for one is_v is_w.
            at_most-trans v w (Some c.in-Some.bound)
            (c.finer_cells_bound_more.ensures cost ps split.even cells v w grows within are for (finer r c.args.options.splits cells split) is_v is_w)
            (alone ps are for one w is_w);
        single = λ one. c.relaxed_costs_known.ensures.single cost cells c.in-Some.bound grows within work.valued.timings split.fit one value;
      },
    )
