use Rattle.std.proofs.Common.{arith, length}
use Rattle.drive_rules.specs.Verdict.{step_fault}
use Rattle.drive_rules.proofs.VerdictLemmas.{first_below-found, step_fault-some}
use Rattle.drive_rules.proofs.rules.Rules.steps_cost.Goals as goal

pub returns-in-Err-clause-first : goal.returns-in-Err-clause-first
returns-in-Err-clause-first g c =
    let r = c.args.self.now in
    let speeds = c.args.speeds.now in
    first_below-found (step_fault r speeds) c.loop-i.i (length r.steps) (c.in-Err.rule, c.loop-i.i) c.loop-i.invariant.none (step_fault-some r speeds c.loop-i.i c.in-Err.rule c.in-Err.ensures.broken) (omega arith)
