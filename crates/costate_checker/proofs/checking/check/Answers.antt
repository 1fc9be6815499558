use Rattle.costate_checker.proofs.HoldLemmas.{ok_holds, err_fails, ok_shows}
use Rattle.costate_checker.proofs.checking.check.Goals as goal

pub returns-clause-holds : goal.returns-clause-holds
returns-clause-holds g c =
    ok_holds (g.C.StepCost.cost c.args.cost.now) c.args.share c.args.rules.now c.args.certificate.now c.first_broken.result c.first_broken.ensures.early c.first_broken.ensures.late
    c.first_broken.ensures.ranges

pub returns-clause-fails : goal.returns-clause-fails
returns-clause-fails g c =
    err_fails (g.C.StepCost.cost c.args.cost.now) c.args.share c.args.rules.now c.args.certificate.now c.first_broken.result c.first_broken.ensures.late

pub returns-clause-shows : goal.returns-clause-shows
returns-clause-shows g c =
    ok_shows (g.C.StepCost.cost c.args.cost.now) c.args.share c.args.rules.now c.args.certificate.now c.first_broken.result c.requires.covers
    (ok_holds (g.C.StepCost.cost c.args.cost.now) c.args.share c.args.rules.now c.args.certificate.now c.first_broken.result c.first_broken.ensures.early c.first_broken.ensures.late
    c.first_broken.ensures.ranges) c.first_broken.ensures.bounds
