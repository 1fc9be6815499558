use Rattle.std.proofs.Common.{◌<◌, ◌≡◌, ◌∙◌, List, Some, false, length, ap, sym, subst, slice_set}
use Rattle.rail_specs.specs.Rules.{Rules}
use Rattle.line_file.specs.declared.calls.Call.{Call}
use Rattle.line_file.specs.Shape.{call_at}
use Rattle.rule_changes.specs.Latest.{with_latest_call}
use Rattle.advice_session.specs.Data.{State, IsSession, state_of}
use Rattle.advice_session.specs.Faults.{is_too_many}
use Rattle.advice_session.proofs.LatestLaws.{latest_is, point_found, room_for, timed_session}
use Rattle.advice_session.proofs.session.Session.set_latest.Goals as goal

pub overflow_sub-point : goal.overflow_sub-point
overflow_sub-point c =
    let there = subst (λ (s : State). c.args.j < length s.data_is.service.calls) (sym c.self.view_is) c.requires.there in
    let after = subst (λ (s : State). s.data_is.setup.place < (call_at s.data_is.service.calls c.args.j).place) (sym c.self.view_is) c.requires.behind in
    (point_found _ c.args.j c.point_behind-point.result c.items.result.now c.self.invariant there after c.point_behind-point.ensures.value c.items.ensures).0

pub set_latest-requires-clause-after : goal.set_latest-requires-clause-after
set_latest-requires-clause-after c =
    let there = subst (λ (s : State). c.args.j < length s.data_is.service.calls) (sym c.self.view_is) c.requires.there in
    let after = subst (λ (s : State). s.data_is.setup.place < (call_at s.data_is.service.calls c.args.j).place) (sym c.self.view_is) c.requires.behind in
    (point_found _ c.args.j c.point_behind-point.result c.items.result.now c.self.invariant there after c.point_behind-point.ensures.value c.items.ensures).1

pub set_latest-requires-clause-room : goal.set_latest-requires-clause-room
set_latest-requires-clause-room c =
    let there = subst (λ (s : State). c.args.j < length s.data_is.service.calls) (sym c.self.view_is) c.requires.there in
    let after = subst (λ (s : State). s.data_is.setup.place < (call_at s.data_is.service.calls c.args.j).place) (sym c.self.view_is) c.requires.behind in
    let free = subst (λ (s : State). is_too_many s.data_is.service.calls c.args.j ≡ false) (sym c.self.view_is) c.requires.free in
    let p = point_found _ c.args.j c.point_behind-point.result c.items.result.now c.self.invariant there after c.point_behind-point.ensures.value c.items.ensures in
    room_for _ c.args.j _ _ c.self.invariant c.known.ensures there after free p.2 p.3

pub invariant_of-self : goal.invariant_of-self
invariant_of-self c =
    let i = c.self.inside in
    subst (λ (r : Rules). IsSession (state_of i.line i.train i.service i.step i.place i.speed i.clock i.names.items i.stretches.items r)) (sym c.in_err-set_latest.ensures.refused) c.self.invariant

pub invariant_of-self-2 : goal.invariant_of-self-2
invariant_of-self-2 c =
    let there = subst (λ (s : State). c.args.j < length s.data_is.service.calls) (sym c.self.view_is) c.requires.there in
    let after = subst (λ (s : State). s.data_is.setup.place < (call_at s.data_is.service.calls c.args.j).place) (sym c.self.view_is) c.requires.behind in
    let free = subst (λ (s : State). is_too_many s.data_is.service.calls c.args.j ≡ false) (sym c.self.view_is) c.requires.free in
    let p = point_found _ c.args.j c.point_behind-point.result c.items.result.now c.self.invariant there after c.point_behind-point.ensures.value c.items.ensures in
    let i = c.self.inside in
    let calls : c.set.new.self ≡ with_latest_call i.service.calls c.args.j c.args.seconds = c.set.ensures
    ∙ ap (λ (cs : List Call). slice_set i.service.calls c.args.j (record { place = (call_at cs c.args.j).place; dwell = (call_at cs c.args.j).dwell; latest = Some c.args.seconds })) c.items.ensures in
    let value = latest_is c.args.seconds i.clock c.from.result c.from-2.result c.from.ensures c.from-2.ensures c.requires.small c.self.invariant.setup.clock in
    subst (λ (cs : List Call). IsSession (state_of i.line i.train (record { calls = cs }) i.step i.place i.speed i.clock i.names.items i.stretches.items c.set_latest.new.self)) (sym calls)
    (timed_session i.line i.train i.service i.step i.place i.speed i.clock i.names.items i.stretches.items i.rules c.set_latest.new.self c.args.j c.args.seconds _ _ c.self.invariant c.known.ensures
    there after c.requires.small free p.2 p.3 value c.in_ok-set_latest.ensures.set c.in_ok-set_latest.ensures.others)
