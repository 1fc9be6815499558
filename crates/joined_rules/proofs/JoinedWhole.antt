-- A layout, a course and times make the joined rules.
use Rattle.std.proofs.Common.{ℕ, ◌≡◌, ◌<◌, ◌+◌, ◌∙◌, List, length, get_or, subst, sym, arith, refl}
use Rattle.rail_specs.specs.Rules.{Rules}
use Rattle.line_file.specs.declared.line.Line.{Line}
use Rattle.line_file.specs.declared.service.Service.{Service}
use Rattle.train_file.specs.declared.train.Train.{Train}
use Rattle.joined_rules.specs.declared.setup.Setup.{Setup}
use Rattle.joined_rules.specs.declared.layout.Layout.{Layout}
use Rattle.joined_rules.specs.declared.course.Course.{Course}
use Rattle.joined_rules.specs.declared.times.Times.{Times}
use Rattle.joined_rules.specs.Joined.{IsJoined, IsSetup, AreTimings, marks_of, last_place}
use Rattle.joined_rules.specs.JoinedParts.{IsLayout, IsCourse, AreTimes}
use Rattle.joined_rules.proofs.JoinedGrid.{first_is}

-- the rules of a start speed, a top speed, two tables, a length of the train, a layout, a course and times
abbrev pub rules_from : ℕ → ℕ → List ℕ → List ℕ → ℕ → Layout → Course → Times → Rules
rules_from start top traction brake metres l c t = record {
  start = start;
  top = top;
  traction = traction;
  brake = brake;
  train_length = metres;
  steps = c.rows.items;
  limits = c.limits.items;
  places = l.places.items;
  stops = l.stops.items;
  dwells = t.dwells.items;
  timings = t.timings.items;
}

-- they are joined where their parts are
pub joined_from : (line : Line) (train : Train) (service : Service) (setup : Setup) (top : ℕ) (traction brake : List ℕ) (l : Layout) (c : Course) (t : Times) →
    IsSetup service setup → top + 1 ≡ length train.traction → traction ≡ train.traction → brake ≡ train.brake →
    IsLayout line service setup l → IsCourse line train setup l.places.items c → AreTimes service.calls setup.clock l.places.items l.visits.items t →
    IsJoined line train service setup (rules_from setup.speed top traction brake train.length l c t)
joined_from line train service setup top traction brake l c t u top_is traction_is brake_is lay course times =
    let visits = lay.stops_are.visits_are in
    record {
      grid = lay.accepted.grid.grid;
      start_is = refl;
      top_is = top_is;
      traction_is = traction_is;
      brake_is = brake_is;
      length_is = refl;
      steps_are = sym course.count;
      each_step = course.each_step;
      limits_are = course.limits_count;
      each_limit = λ i m. course.each_limit i (omega (arith, m, course.limits_count));
      stops_are = lay.stops_are.count ∙ visits.count;
      dwells_are = times.dwells_count ∙ visits.count;
      each_point = λ k m.
          let there : k < length l.visits.items = omega (arith, m, visits.count) in
          record { at = get_or l.visits.items k 0; call = visits.each k there; stop_is = lay.stops_are.each k there; dwell_is = times.each_dwell k there };
      timings_are = subst (λ (p : ℕ). AreTimings service.calls p setup.clock l.places.items t.timings.items)
          (first_is (marks_of line service) setup.step setup.place (last_place service.calls) l.places.items lay.accepted.grid.grid u.place.1) times.timings_are;
    }
