use Rattle.chain_duality.proofs.Duality.{potentials_feasible}
use Rattle.chain_duality.proofs.laws.potentials_are_feasible.Goals as goal

pub returns : goal.returns
returns c = potentials_feasible
