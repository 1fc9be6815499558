use Rattle.chain_duality.proofs.Lists.{adjacent_cells}
use Rattle.chain_duality.proofs.Duality.{weak_duality}
use Rattle.chain_duality.proofs.laws.feasible_values_bound.Goals as goal

pub returns : goal.returns
returns c n real low cells values laws points adjacent feasible = weak_duality n real low laws cells points (adjacent_cells cells adjacent) values feasible
