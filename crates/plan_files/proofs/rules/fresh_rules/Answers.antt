use Rattle.plan_files.proofs.FreshLemmas.{fresh_is, fresh_joined}
use Rattle.plan_files.proofs.rules.fresh_rules.Goals as goal

pub returns-in-Ok-clause-stage : goal.returns-in-Ok-clause-stage
returns-in-Ok-clause-stage g c =
    let f = c.fresh-setup.ensures in
    let fresh = fresh_is c.fresh-setup.result c.args.service.now c.args.step f.step f.place f.speed f.clock f.stretches in
    fresh_joined c.args.line.now c.args.train.now c.args.service.now c.args.step c.fresh-setup.result
    c.in-Ok.rules fresh c.in-Ok.ensures.joined
