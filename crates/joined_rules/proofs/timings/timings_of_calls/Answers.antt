use Rattle.std.proofs.Common.{◌≡◌, ◌<◌, ◌≤◌, arith, refl, get_or, length, ℤ, [], ◌∷◌, ◌++◌, to_z, of_z, w64, subst}
use Rattle.std.proofs.lemmas.Int.{ints}
use Rattle.line_file.specs.Shape.{call_at}
use Rattle.rail_specs.specs.declared.Timing.{Timing}
use Rattle.joined_rules.proofs.JoinedRising.{places_rise}
use Rattle.joined_rules.proofs.JoinedTimings.{timed_one, timed_none}
use Rattle.joined_rules.proofs.timings.timings_of_calls.Goals as goal
use Rattle.joined_rules.proofs.timings.timings_of_calls.Goals.{in-Some+then-places-calls+in_ok-push, in-Some+else-places-calls, in_default}

pub point_from-point-requires-clause-before : goal.point_from-point-requires-clause-before
point_from-point-requires-clause-before c = λ j l.
    let places = c.args.places.now in
    let below : get_or places c.loop-j.point 0 < (call_at c.args.calls.now c.loop-j.j).place = c.loop-j.invariant.below c.loop-j.j (omega arith) (omega arith) c.if-places-calls.true in
    omega (arith, below, places_rise places c.requires.rising j c.loop-j.point l c.loop-j.invariant.there)

pub loop-j-preserved : goal.loop-j-preserved
loop-j-preserved c =
    let calls = c.args.calls.now in
    let places = c.args.places.now in
    let j = c.loop-j.j in
    let some : 1 ≤ j = c.loop-j.auto.j in
    let there : j < length calls = omega (arith, c.loop-j-test.true) in
    elim c.match-calls-j.branch [
      | in-Some+then-places-calls+in_ok-push w ↦ (
          let value : ℤ = w.latest_after.result in
          let same : to_z w64 (of_z w64 value) ≡ value = omega (arith, ints, w.latest_after.ensures.small) in
          let t : Timing = record { point = w.point_from-point.result; latest = value } in
          let items : w.push.new.self.items ≡ c.loop-j.timings.items ++ t ∷ [] =
          subst (λ (z : ℤ). w.push.new.self.items ≡ c.loop-j.timings.items ++ (let u : Timing = record { point = w.point_from-point.result; latest = z } in u) ∷ []) same w.in_ok-push.ensures.items in
          rw (w.timings-is, w.point-is)
          (timed_one calls places c.args.clock j c.loop-j.point w.point_from-point.result w.in-Some.seconds c.loop-j.timings.items w.push.new.self.items t some there c.requires.calls.rising c.requires.rising
          w.if-places-calls.true w.in-Some.is w.latest_after.ensures.value refl w.point_from-point.ensures.there w.point_from-point.ensures.at items c.loop-j.invariant))
      | in-Some+else-places-calls w ↦ rw (w.timings-is, w.point-is) (timed_none calls places c.args.clock j c.loop-j.point c.loop-j.timings.items some there (λ after. absurd (omega (arith, after, w.if-places-calls.false))) c.loop-j.invariant)
      | in_default w ↦ rw (w.timings-is, w.point-is) (timed_none calls places c.args.clock j c.loop-j.point c.loop-j.timings.items some there (λ after. w.in_default.is) c.loop-j.invariant)
    ]
