use Rattle.link_costs.proofs.BoundLemmas.{feasible_bounds}
use Rattle.link_costs.proofs.laws.feasible_values_give_a_bound.Goals as goal

pub returns : goal.returns
returns c = feasible_bounds
