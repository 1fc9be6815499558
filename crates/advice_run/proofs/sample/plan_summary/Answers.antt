use Rattle.std.proofs.Common.{arith, ◌≡◌, to_z, of_z}
use Rattle.std.specs.Int.{w128}
use Rattle.std.proofs.lemmas.Int.{ints}
use Rattle.advice_run.proofs.SampleLemmas.{summary_answered}
use Rattle.advice_run.proofs.sample.plan_summary.Goals as goal

pub returns : goal.returns
returns c =
    let (whole, even, times, is) = c.requires.plan in
    let cost : to_z w128 (of_z w128 c.args.plan.now.cost) ≡ c.args.plan.now.cost = omega (arith, ints, is.small_cost) in
    let bound : to_z w128 (of_z w128 c.args.plan.now.bound) ≡ c.args.plan.now.bound = omega (arith, ints, is.small_bound) in
    summary_answered c.args.number c.args.rules.now c.args.options.splits c.args.options.tolerance c.in_ok-reported.reported.status c.in_ok-reported.reported.text.items c.in_ok-text.text.items
    c.args.plan.now c.in_ok-reported.ensures (rw (cost, bound, c.count-cells.ensures, c.points-points.ensures.value) at c.in_ok-text.ensures)
