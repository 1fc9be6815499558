use Rattle.std.proofs.Common.{arith}
use Rattle.std.proofs.lemmas.Int.{ints}
use Rattle.step_energy.proofs.RowLemmas.{unit_bound}
use Rattle.step_energy.proofs.row.StepRow.force_work.Goals as goal

pub returns-clause-small : goal.returns-clause-small
returns-clause-small c = omega (arith, ints, unit_bound c.self.inside c.args.force c.self.invariant c.requires)
