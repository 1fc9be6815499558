use Rattle.std.proofs.Common.{◌≡◌, ◌≤◌, ◌+◌, length, get_or, arith}
use Rattle.joined_rules.specs.Joined.{marks_of, last_place}
use Rattle.joined_rules.proofs.JoinedGrid.{limits_cut, gradients_cut, two_places, short_steps, first_is, call_place}
use Rattle.joined_rules.proofs.JoinedShaped.{shaped}
use Rattle.joined_rules.proofs.JoinedWhole.{joined_from}
use Rattle.joined_rules.proofs.join.Goals as goal

pub course_over-requires-clause-limits : goal.course_over-requires-clause-limits
course_over-requires-clause-limits g c =
    let a = c.in_ok-layout.ensures.made.accepted in
    rw c.deref.ensures.value (limits_cut c.args.line.now c.args.service.now c.args.setup.now c.in_ok-layout.layout.places.items c.requires.line c.requires.service c.requires.setup a.on_line a.grid.grid)

pub course_over-requires-clause-gradients : goal.course_over-requires-clause-gradients
course_over-requires-clause-gradients g c =
    let a = c.in_ok-layout.ensures.made.accepted in
    rw c.deref.ensures.value (gradients_cut c.args.line.now c.args.service.now c.args.setup.now c.in_ok-layout.layout.places.items c.requires.line c.requires.service c.requires.setup a.on_line a.grid.grid)

pub course_over-requires-clause-some : goal.course_over-requires-clause-some
course_over-requires-clause-some g c =
    let a = c.in_ok-layout.ensures.made.accepted in
    rw c.deref.ensures.value (let two : 2 ≤ length c.in_ok-layout.layout.places.items = two_places _ _ _ _ _ a.grid.grid a.grid.span in omega (arith, two))

pub course_over-requires-clause-short : goal.course_over-requires-clause-short
course_over-requires-clause-short g c =
    let a = c.in_ok-layout.ensures.made.accepted in
    let setup = c.args.setup.now in
    let places = c.in_ok-layout.layout.places.items in
    rw c.deref.ensures.value (λ i l. omega (arith, c.requires.setup.step.1, short_steps (marks_of c.args.line.now c.args.service.now) setup.step setup.place (last_place c.args.service.now.calls) places a.grid.grid a.grid.span (omega (arith, c.requires.setup.step.0)) i l))

pub times_of-requires-clause-start : goal.times_of-requires-clause-start
times_of-requires-clause-start g c =
    let a = c.in_ok-layout.ensures.made.accepted in
    let setup = c.args.setup.now in
    let places = c.in_ok-layout.layout.places.items in
    rw c.deref-2.ensures.value (omega (arith, c.requires.setup.place.0, first_is (marks_of c.args.line.now c.args.service.now) setup.step setup.place (last_place c.args.service.now.calls) places a.grid.grid a.grid.span))

pub times_of-requires-clause-there : goal.times_of-requires-clause-there
times_of-requires-clause-there g c =
    let a = c.in_ok-layout.ensures.made.accepted in
    let setup = c.args.setup.now in
    let places = c.in_ok-layout.layout.places.items in
    let first : get_or places 0 0 ≡ setup.place = first_is (marks_of c.args.line.now c.args.service.now) setup.step setup.place (last_place c.args.service.now.calls) places a.grid.grid a.grid.span in
    rw c.deref-2.ensures.value (λ j l after. (a.grid.grid.members _).1 (call_place c.args.line.now c.args.service.now setup j c.requires.service l (omega (arith, after, first))))

pub returns-clause-shaped : goal.returns-clause-shaped
returns-clause-shaped g c =
    let layout = c.in_ok-layout.layout in
    let made = c.in_ok-layout.ensures.made in
    let course = rw c.deref.ensures.value at c.in_ok-course.ensures.made in
    let times = rw (c.deref-2.ensures.value, c.deref-3.ensures.value) at c.in_ok-times.ensures in
    let top : c.top.result + 1 ≡ length c.args.train.now.traction = omega (arith, c.top.ensures.value, c.requires.train.traction.some) in
    let joined = joined_from c.args.line.now c.args.train.now c.args.service.now c.args.setup.now c.top.result c.in_ok-traction.traction c.in_ok-brake.brake layout c.in_ok-course.course c.in_ok-times.times
    c.requires.setup top c.in_ok-traction.ensures c.in_ok-brake.ensures made course times in
    shaped c.args.line.now c.args.train.now c.args.service.now c.args.setup.now _ c.requires.line c.requires.train c.requires.service c.requires.setup joined
    made.accepted.grid.few made.apart course.light times.short (omega (arith, times.few, c.requires.service.latest))

pub returns-clause-joined : goal.returns-clause-joined
returns-clause-joined g c =
    let layout = c.in_ok-layout.layout in
    let made = c.in_ok-layout.ensures.made in
    let course = rw c.deref.ensures.value at c.in_ok-course.ensures.made in
    let times = rw (c.deref-2.ensures.value, c.deref-3.ensures.value) at c.in_ok-times.ensures in
    let top : c.top.result + 1 ≡ length c.args.train.now.traction = omega (arith, c.top.ensures.value, c.requires.train.traction.some) in
    let joined = joined_from c.args.line.now c.args.train.now c.args.service.now c.args.setup.now c.top.result c.in_ok-traction.traction c.in_ok-brake.brake layout c.in_ok-course.course c.in_ok-times.times
    c.requires.setup top c.in_ok-traction.ensures c.in_ok-brake.ensures made course times in
    record { joined = joined; accepted = made.accepted; light = course.light }
