use Rattle.costate_bound.proofs.Covering.{CoversWork-regained_cost}
use Rattle.costate_bound.proofs.laws.costs_cover_work.Goals as goal

pub returns-clause-regained : goal.returns-clause-regained
returns-clause-regained c = CoversWork-regained_cost
