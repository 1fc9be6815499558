use Rattle.std.proofs.Common.{arith, length, sym, subst}
use Rattle.advice_session.specs.Data.{State}
use Rattle.advice_session.proofs.Lines.{on_line}
use Rattle.advice_session.proofs.PlaceLaws.{first_below, last_above}
use Rattle.advice_session.proofs.MoveLaws.{Accepts, accepted, goes_on, later_is, no_stop_next, stay_in_range}
use Rattle.advice_session.proofs.session.Session.at.Goals as goal

pub advance-requires-clause-on_line : goal.advance-requires-clause-on_line
advance-requires-clause-on_line g c = on_line _ c.self.invariant

pub advance-requires-clause-begun : goal.advance-requires-clause-begun
advance-requires-clause-begun g c =
    let a = subst (λ (s : State). Accepts s c.args.place c.args.speed c.args.clock) (sym c.self.view_is) (accepted c.args.self.now c.args.place c.args.speed c.args.clock c.in_default.ensures) in
    omega (arith, a.begun, first_below _ _ c.self.inside.place _ c.self.inside.rules.places c.self.invariant.rules.joined.grid)

pub advance-requires-clause-ends : goal.advance-requires-clause-ends
advance-requires-clause-ends g c =
    let a = subst (λ (s : State). Accepts s c.args.place c.args.speed c.args.clock) (sym c.self.view_is) (accepted c.args.self.now c.args.place c.args.speed c.args.clock c.in_default.ensures) in
    omega (arith, a.ends, last_above _ _ _ _ (length c.self.inside.rules.steps) c.self.inside.rules.places c.self.invariant.rules.joined.grid c.self.invariant.rules.joined.steps_are)

pub advance-requires-clause-moves : goal.advance-requires-clause-moves
advance-requires-clause-moves g c =
    let a = subst (λ (s : State). Accepts s c.args.place c.args.speed c.args.clock) (sym c.self.view_is) (accepted c.args.self.now c.args.place c.args.speed c.args.clock c.in_default.ensures) in
    no_stop_next _ c.args.place c.args.speed c.args.clock c.self.invariant a

pub advance-requires-clause-in_range : goal.advance-requires-clause-in_range
advance-requires-clause-in_range g c =
    let a = subst (λ (s : State). Accepts s c.args.place c.args.speed c.args.clock) (sym c.self.view_is) (accepted c.args.self.now c.args.place c.args.speed c.args.clock c.in_default.ensures) in
    stay_in_range _ c.args.place c.args.speed c.args.clock _ c.self.invariant a (later_is c.self.inside.clock c.args.clock c.from-later.result c.from-later.ensures a.on a.clock_is)

pub invariant_of-self : goal.invariant_of-self
invariant_of-self g c =
    let a = subst (λ (s : State). Accepts s c.args.place c.args.speed c.args.clock) (sym c.self.view_is) (accepted c.args.self.now c.args.place c.args.speed c.args.clock c.in_default.ensures) in
    goes_on _ _ _ _ _ _ _ _ c.self.inside.stretches.items c.deref.result.now _ _ c.args.place c.args.speed c.args.clock _ c.self.invariant a c.deref.ensures.value (later_is c.self.inside.clock c.args.clock c.from-later.result c.from-later.ensures a.on a.clock_is) c.advance.ensures.joined
