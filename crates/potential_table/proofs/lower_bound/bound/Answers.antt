use Rattle.std.proofs.Common.{◌≡◌, sym, subst, to_z, of_z}
use Rattle.std.specs.Int.{w128}
use Rattle.std.specs.Prelude.{ℤ, ◌-ℤ◌}
use Rattle.bound_specs.specs.Prices.{priced_slack}
use Rattle.potential_table.specs.Bounds.{GivesBound}
use Rattle.potential_table.proofs.BoundLemmas.{gives_bound, wide_difference}
use Rattle.potential_table.proofs.lower_bound.bound.Goals as goal

pub returns-clause-bounds : goal.returns-clause-bounds
returns-clause-bounds c =
    let value : ℤ = c.in_ok-potential.potential in
    let is : to_z w128 (of_z w128 c.difference.result) ≡ value -ℤ priced_slack c.args.rules.now c.args.prices.now =
    wide_difference value c.slack_charge-slack.result c.difference.result (priced_slack c.args.rules.now c.args.prices.now)
    c.in_ok-potential.ensures.small c.slack_charge-slack.ensures.small c.difference.ensures.value c.slack_charge-slack.ensures.value in
    subst (GivesBound c.args.rules.now c.args.prices.now c.args.potentials.now) (sym is)
    (gives_bound c.args.rules.now c.args.prices.now c.args.potentials.now value c.known.ensures c.known-2.ensures.prices c.requires.prices c.known-2.ensures.by_parts_of_steps
    c.requires.points c.requires.start (sym c.in_ok-potential.ensures.value))
