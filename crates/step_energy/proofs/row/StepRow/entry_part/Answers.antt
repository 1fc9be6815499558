use Rattle.std.proofs.Common.{arith}
use Rattle.std.proofs.lemmas.Int.{ints}
use Rattle.step_energy.proofs.RowLemmas.{entry_bound}
use Rattle.step_energy.proofs.row.StepRow.entry_part.Goals as goal

pub returns-clause-small : goal.returns-clause-small
returns-clause-small c = omega (arith, ints, entry_bound c.self.inside c.args.v0 c.self.invariant c.requires)
