use Rattle.std.proofs.Common.{arith}
use Rattle.rail_specs.proofs.WorkLemmas.{work_parts}
use Rattle.step_energy.proofs.Bounds.{difference_is}
use Rattle.step_energy.proofs.row.StepRow.short_work.Goals as goal

pub returns-clause-value : goal.returns-clause-value
returns-clause-value c =
    cc (difference_is c.exit_part.result c.entry_part.result (omega (arith, c.exit_part.ensures.small)) (omega (arith, c.entry_part.ensures.small)), work_parts c.self.inside.numbers c.args.v0 c.args.v1 c.self.invariant.small_drag)
