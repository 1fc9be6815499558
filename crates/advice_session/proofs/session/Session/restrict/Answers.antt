use Rattle.std.proofs.Common.{arith, length, ap, subst, sym, ◌≡◌, ◌+◌, ◌<◌, [], ◌∷◌, length-append}
use Rattle.rule_changes.specs.Limits.{AreStretches}
use Rattle.advice_session.specs.Data.{State}
use Rattle.advice_session.proofs.Accepted.{restriction}
use Rattle.advice_session.proofs.Lines.{on_line}
use Rattle.advice_session.proofs.LimitLaws.{relimited, stretches_pushed}
use Rattle.advice_session.proofs.session.Session.restrict.Goals as goal

pub set_limits-requires-clause-stretches : goal.set_limits-requires-clause-stretches
set_limits-requires-clause-stretches g c =
    let accepted = restriction c.args.self.now.data_is c.args.name.now c.args.from c.args.to c.args.limit c.in_default.ensures in
    subst AreStretches (sym c.deref.ensures.value) (subst AreStretches (sym c.in_ok-append.ensures.stretches) (stretches_pushed c.self.inside.stretches.items _ c.self.invariant.setup.stretches accepted.0))

pub set_limits-requires-clause-on_line : goal.set_limits-requires-clause-on_line
set_limits-requires-clause-on_line g c = on_line _ c.self.invariant

pub invariant_of-self-2 : goal.invariant_of-self-2
invariant_of-self-2 g c =
    let accepted = restriction c.args.self.now.data_is c.args.name.now c.args.from c.args.to c.args.limit c.in_default.ensures in
    let old = c.self.invariant in
    let room : length c.self.inside.names.items < 64 = omega (arith, accepted.1, ap (λ (s : State). length s.data_is.names) c.self.view_is) in
    let names : length c.append.new.names.items ≡ length c.self.inside.names.items + 1 = omega (arith, ap length c.in_ok-append.ensures.names, length-append c.self.inside.names.items (c.args.name.now ∷ [])) in
    let stretches : length c.append.new.stretches.items ≡ length c.self.inside.stretches.items + 1 = omega (arith, ap length c.in_ok-append.ensures.stretches, length-append c.self.inside.stretches.items (record { from = c.args.from; to = c.args.to; limit = c.args.limit } ∷ [])) in
    relimited _ _ _ _ _ _ _ _ c.append.new.names.items _ c.append.new.stretches.items c.deref.result.now _ _ old
    (subst AreStretches (sym c.in_ok-append.ensures.stretches) (stretches_pushed c.self.inside.stretches.items _ old.setup.stretches accepted.0))
    (omega (arith, names, stretches, old.names))
    (omega (arith, names, room))
    c.deref.ensures.value
    c.set_limits.ensures
