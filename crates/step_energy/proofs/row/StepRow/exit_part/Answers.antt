use Rattle.std.proofs.Common.{arith}
use Rattle.std.proofs.lemmas.Int.{ints}
use Rattle.step_energy.proofs.Bounds.{work_up_bound}
use Rattle.step_energy.proofs.RowLemmas.{coefficient_bound, exit_part_is}
use Rattle.step_energy.proofs.row.StepRow.exit_part.Goals as goal

pub overflow_add-result-2 : goal.overflow_add-result-2
overflow_add-result-2 c =
    let r = c.self.invariant in
    omega (arith, ints, r.base_small, coefficient_bound c.self.inside c.args.v1 r c.requires)

pub returns-clause-value : goal.returns-clause-value
returns-clause-value c = rw (← c.self.view_is) (exit_part_is c.self.inside c.args.v1 c.self.invariant c.requires)

pub returns-clause-small : goal.returns-clause-small
returns-clause-small c =
    rw (exit_part_is c.self.inside c.args.v1 c.self.invariant c.requires) (work_up_bound c.self.inside.numbers c.args.v1 c.self.invariant.in_range c.self.invariant.small_drag c.requires)
