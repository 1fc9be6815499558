use Rattle.std.proofs.Common.{◌-◌, length, ap, subst, arith}
use Rattle.bound_specs.specs.ChainValues.{IsBestPrice}
use Rattle.chain_duality.proofs.Orders.{at_most-trans}
use Rattle.price_rounds.specs.Rounds.{pricing}
use Rattle.price_rounds.proofs.AloneLemmas.{valued_by}
use Rattle.price_rounds.proofs.rounds.gone_once.Goals as goal

pub loop-timing-preserved : goal.loop-timing-preserved
loop-timing-preserved g c =
    let found = c.in_ok-best.ensures in
    let before = c.loop-timing.invariant.valued in
    record {
      valued = valued_by (g.C.StepCost.cost c.args.cost.now) c.args.rules.now c.args.cells.now c.loop-timing.timing found.alone.0 c.loop-timing.best.prices c.in_ok-best.best
          before.timings found.alone.2 found.potentials found.value found.small;
      no_less = at_most-trans c.args.begun.value c.loop-timing.best.value c.in_ok-best.best.value c.loop-timing.invariant.no_less (found.no_less c.loop-timing.best.value before.value);
      best = λ j same. subst (IsBestPrice (pricing (g.C.StepCost.cost c.args.cost.now) c.args.rules.now c.in_ok-best.best.prices) c.args.cells.now) (omega (arith, same)) found.best;
    }

pub returns-clause-last : goal.returns-clause-last
returns-clause-last g c q v low there =
    (c.loop-timing.invariant.best (length c.args.rules.now.timings - 1)
    (omega (arith, c.known.ensures.some_timings, c.loop-timing-test.false, c.loop-timing.auto.timing-end, ap length c.timings-timing-end.ensures.value))).greatest q c.loop-timing.best.value v low c.loop-timing.invariant.valued.value there
