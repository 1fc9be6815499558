use Rattle.std.proofs.Common.{subst}
use Rattle.joined_rules.specs.Joined.{first_place, IsAccepted}
use Rattle.joined_rules.specs.declared.setup.Setup.{Setup}
use Rattle.advice_session.proofs.LimitLaws.{setup_is, begins}
use Rattle.advice_session.proofs.session.Session.start.Goals as goal

pub invariant_of-result : goal.invariant_of-result
invariant_of-result g c =
    let u = setup_is c.fresh-setup.result c.args.step (first_place c.args.service.now.calls) c.fresh-setup.ensures.step c.fresh-setup.ensures.place c.fresh-setup.ensures.speed c.fresh-setup.ensures.clock c.fresh-setup.ensures.stretches in
    rw c.fresh-setup.ensures.place (begins c.args.line.now _ c.args.train.now _ c.args.service.now _ c.fresh-setup.result c.args.step _ _ _ c.requires.line c.requires.train c.requires.service
    c.in_ok-own_line.ensures c.in_ok-own_train.ensures c.in_ok-own_service.ensures
    (c.fresh-setup.ensures.setup c.requires.service c.requires.step.0 c.requires.step.1) u c.new.ensures.items c.new-2.ensures.items c.in_ok-rules.ensures.joined)

pub returns-clause-made : goal.returns-clause-made
returns-clause-made g c =
    let u = setup_is c.fresh-setup.result c.args.step (first_place c.args.service.now.calls) c.fresh-setup.ensures.step c.fresh-setup.ensures.place c.fresh-setup.ensures.speed c.fresh-setup.ensures.clock c.fresh-setup.ensures.stretches in
    let m = c.in_ok-rules.ensures.made in
    (m.0, subst (λ (x : Setup). IsAccepted c.args.line.now c.args.service.now x m.0) u m.1, m.2)
