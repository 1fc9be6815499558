use Rattle.advice_run.proofs.AnswerLemmas.{drive_answer}
use Rattle.advice_run.proofs.CertificateLemmas.{in_range}
use Rattle.advice_run.proofs.rules.plan_answer.Goals as goal
use Rattle.advice_run.proofs.rules.plan_answer.Goals.{then-plan, else-plan}

pub report-requires-clause-certificate : goal.report-requires-clause-certificate
report-requires-clause-certificate g c =
    in_range (g.C.StepCost.cost c.args.cost.now) c.args.rules.now c.args.options.splits c.args.options.tolerance c.args.plan.now c.in_ok-certificate.certificate c.requires.splits c.known.ensures
    c.known-2.ensures.prices c.requires.plan c.in_ok-certificate.ensures.says (c.in_ok-certificate.ensures.in_range (rw c.speeds.ensures at c.known_drive.ensures.slow))

pub returns : goal.returns
returns g c =
    drive_answer (g.C.StepCost.cost c.args.cost.now) c.args.rules.now c.args.options.splits c.args.options.tolerance c.args.regeneration c.if-plan.status c.in_ok-text.text.items c.args.plan.now
    c.in_ok-certificate.certificate c.requires.splits c.known.ensures c.known-2.ensures.prices c.requires.plan c.in_ok-certificate.ensures.says
    (c.in_ok-certificate.ensures.in_range (rw c.speeds.ensures at c.known_drive.ensures.slow)) (elim c.if-plan.branch [ then-plan w ↦ cc | else-plan w ↦ cc ]) c.in_ok-text.ensures.text c.in_ok-text.ensures.part
