use Rattle.rail_specs.specs.Cost.{traction_cost}
use Rattle.rail_specs.specs.Step.{work}
use Rattle.rail_specs.specs.Rules.{step_at}
use Rattle.drive_rules.proofs.KeptLemmas.{kept_with_cost}
use Rattle.drive_rules.proofs.rules.Rules.step_kept.Goals as goal

pub returns : goal.returns
returns c = rw c.is_ok.ensures.value (kept_with_cost c.args.self.now c.args.i c.args.v0 c.args.v1 (traction_cost (work (step_at c.args.self.now c.args.i) c.args.v0 c.args.v1)) c.step_cost.result c.step_cost.ensures.kept c.step_cost.ensures.broken)
