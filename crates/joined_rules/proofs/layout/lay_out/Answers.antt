use Rattle.std.proofs.Common.{arith, ◌≤◌, length, refl, ◌-◌}
use Rattle.joined_rules.proofs.JoinedGrid.{two_places}
use Rattle.joined_rules.proofs.JoinedStops.{all_apart}
use Rattle.joined_rules.proofs.layout.lay_out.Goals as goal
use Rattle.joined_rules.specs.JoinedParts.{NoneClose, AreStops}

pub calls_of_points-requires-clause-some : goal.calls_of_points-requires-clause-some
calls_of_points-requires-clause-some c =
    let g = c.in_ok-places.ensures.places in
    rw c.deref.ensures.value (let two : 2 ≤ length c.in_ok-places.places.items = two_places _ _ _ _ _ g.grid g.span in omega (arith, two))

pub check_stops-requires-clause-some : goal.check_stops-requires-clause-some
check_stops-requires-clause-some c =
    let g = c.in_ok-places.ensures.places in
    rw c.deref-3.ensures.value (let two : 2 ≤ length c.in_ok-places.places.items = two_places _ _ _ _ _ g.grid g.span in omega (arith, two))

pub returns-clause-made : goal.returns-clause-made
returns-clause-made c =
    let service = c.args.service.now in
    let calls = service.calls in
    let places = c.in_ok-places.places.items in
    let visits = c.in_ok-visits.visits.items in
    let stops = c.in_ok-stops.stops.items in
    let outside = c.in_default.ensures.none refl in
    let none = rw c.items-calls.ensures at outside in
    let at = rw (c.items-calls.ensures, c.deref.ensures.value) at c.in_ok-visits.ensures in
    let count = rw c.deref-2.ensures.value at c.in_ok-stops.ensures.count in
    let each = rw (c.items-calls.ensures, c.deref-2.ensures.value) at c.in_ok-stops.ensures.each in
    let are : AreStops calls places visits stops = record { visits_are = at; count = count; each = each } in
    let apart : NoneClose stops c.args.setup.now.speed (length stops - 1) = rw c.deref-5.ensures.value at c.in_ok-check_stops.ensures.apart in
    record {
      accepted = record { on_line = none; grid = c.in_ok-places.ensures.places; apart = all_apart calls places visits stops c.args.setup.now.speed c.requires.service.calls.rising are apart };
      stops_are = are;
      apart = apart;
    }
