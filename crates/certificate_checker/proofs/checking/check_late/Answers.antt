use Rattle.std.proofs.Common.{◌≡◌, ◌∙◌, Some, None, length, refl, sym, to_z, of_z, arith}
use Rattle.std.specs.Int.{w128}
use Rattle.std.proofs.lemmas.Int.{ints}
use Rattle.bound_specs.specs.Prices.{priced_slack}
use Rattle.certificate_checker.proofs.LateLemmas.{refuses_some, late_is}
use Rattle.certificate_checker.proofs.checking.check_late.Goals as goal

pub returns-in-Some-broken_bound : goal.returns-in-Some-broken_bound
returns-in-Some-broken_bound g c =
    let cost = g.C.StepCost.cost c.args.cost.now in
    let r = c.args.rules.now in
    let prices = c.in_ok-prices.prices in
    let s : to_z w128 (of_z w128 c.slack_charge.result) ≡ priced_slack r prices = omega (arith, ints, c.slack_charge.ensures.small, c.slack_charge.ensures.value) in
    refuses_some (Unit {0}) c.in-Some-broken_bound.refused _
    (late_is cost r c.args.certificate.now c.args.ranges.now.low c.args.ranges.now.high c.items-points.result.now prices (record { cost = cost; rules = r; prices = prices }) (length r.steps)
    c.steps.result (to_z w128 (of_z w128 c.slack_charge.result)) (Some c.in-Some-broken_bound.refused) c.items-points.ensures c.requires.points c.in_ok-prices.ensures.timings
    (c.in_ok-prices.ensures.values ∙ c.items.ensures) refl refl c.steps.ensures.value c.in_default.ensures
    (sym c.in_default-2.is ∙ c.in_ok-refused.ensures) c.in_default-broken_end.ensures s c.in-Some-broken_bound.ensures)

pub returns : goal.returns
returns g c =
    let cost = g.C.StepCost.cost c.args.cost.now in
    let r = c.args.rules.now in
    let prices = c.in_ok-prices.prices in
    let s : to_z w128 (of_z w128 c.slack_charge.result) ≡ priced_slack r prices = omega (arith, ints, c.slack_charge.ensures.small, c.slack_charge.ensures.value) in
    late_is cost r c.args.certificate.now c.args.ranges.now.low c.args.ranges.now.high c.items-points.result.now prices (record { cost = cost; rules = r; prices = prices }) (length r.steps)
    c.steps.result (to_z w128 (of_z w128 c.slack_charge.result)) None c.items-points.ensures c.requires.points c.in_ok-prices.ensures.timings
    (c.in_ok-prices.ensures.values ∙ c.items.ensures) refl refl c.steps.ensures.value c.in_default.ensures
    (sym c.in_default-2.is ∙ c.in_ok-refused.ensures) c.in_default-broken_end.ensures s c.in-None.ensures
