use Rattle.certificate_checker.proofs.HoldLemmas.{ok_holds, err_fails}
use Rattle.certificate_checker.proofs.ShowLemmas.{ok_shows}
use Rattle.certificate_checker.proofs.checking.check.Goals as goal

pub returns-clause-holds : goal.returns-clause-holds
returns-clause-holds g c =
    ok_holds (g.C.StepCost.cost c.args.cost.now) c.args.rules.now c.args.certificate.now c.known.ensures c.requires c.first_broken.result c.first_broken.ensures.early c.first_broken.ensures.late
    c.first_broken.ensures.ranges

pub returns-clause-fails : goal.returns-clause-fails
returns-clause-fails g c =
    err_fails (g.C.StepCost.cost c.args.cost.now) c.args.rules.now c.args.certificate.now c.requires c.first_broken.result c.first_broken.ensures.late

pub returns-clause-shows : goal.returns-clause-shows
returns-clause-shows g c =
    ok_shows (g.C.StepCost.cost c.args.cost.now) c.args.rules.now c.args.certificate.now (g.met.C.StepCost.grows c.args.cost.now) (g.met.C.StepCost.within c.args.cost.now) c.known.ensures c.requires
    c.first_broken.result
    (ok_holds (g.C.StepCost.cost c.args.cost.now) c.args.rules.now c.args.certificate.now c.known.ensures c.requires c.first_broken.result c.first_broken.ensures.early c.first_broken.ensures.late
    c.first_broken.ensures.ranges)
