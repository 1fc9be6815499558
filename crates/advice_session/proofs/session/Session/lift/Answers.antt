use Rattle.std.proofs.Common.{arith, length, ◌<◌, ◌≡◌, ◌+◌, ap, subst, sym}
use Rattle.std.proofs.lemmas.List.Edits.{length-remove}
use Rattle.rule_changes.specs.Limits.{AreStretches}
use Rattle.advice_session.proofs.Accepted.{index_there}
use Rattle.advice_session.proofs.Lines.{on_line}
use Rattle.advice_session.proofs.LimitLaws.{relimited, stretches_removed}
use Rattle.advice_session.proofs.session.Session.lift.Goals as goal

pub set_limits-requires-clause-on_line : goal.set_limits-requires-clause-on_line
set_limits-requires-clause-on_line g c = on_line _ c.self.invariant

pub invariant_of-self : goal.invariant_of-self
invariant_of-self g c =
    let i = c.in-Some.i in
    let old = c.self.invariant in
    let named : i < length c.deref.result.now = index_there c.deref.result.now c.args.name.now i c.in-Some.ensures in
    let there : i < length c.self.inside.names.items = omega (arith, named, ap length c.deref.ensures.value) in
    let stands : i < length c.self.inside.stretches.items = omega (arith, there, old.names) in
    let names : length c.remove.new.self.items + 1 ≡ length c.self.inside.names.items = omega (arith, ap length c.remove.ensures.items, length-remove c.self.inside.names.items i there) in
    let stretches : length c.remove-2.new.self.items + 1 ≡ length c.self.inside.stretches.items = omega (arith, ap length c.remove-2.ensures.items, length-remove c.self.inside.stretches.items i stands) in
    relimited _ _ _ _ _ _ _ _ c.remove.new.self.items _ c.remove-2.new.self.items c.as_slice.result.now _ _ old
    (subst AreStretches (sym c.remove-2.ensures.items) (stretches_removed c.self.inside.stretches.items i stands old.setup.stretches))
    (omega (arith, names, stretches, old.names))
    (omega (arith, names, old.few))
    c.as_slice.ensures.value
    c.set_limits.ensures
