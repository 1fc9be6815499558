use Rattle.std.proofs.Common.{ℕ, ℤ, ◌≡◌, ◌<◌, ◌+◌, ◌-◌, ◌∙◌, List, ◌∷◌, length, get_or, arith, ap, subst, refl, drop, to_z, of_z, w64}
use Rattle.std.proofs.lemmas.Int.{ints}
use Rattle.std.proofs.lemmas.List.{get_or_read, get_or-drop, length-drop}
use Rattle.rail_specs.specs.declared.StepNumbers.{StepNumbers}
use Rattle.rail_specs.specs.Rules.{Rules, no_step, step_at}
use Rattle.rule_parts.specs.Shaped.{rules_of}
use Rattle.rule_changes.specs.Advance.{AreTimingsFrom, IsLastAt, shortened}
use Rattle.rule_changes.proofs.AdvanceLists.{left_count}
use Rattle.rule_changes.proofs.AdvanceShaped.{advanced_shaped, whole_step, part_of_step}
use Rattle.rule_changes.proofs.advance.advance_places.Goals as goal

pub overflow_cast-metres : goal.overflow_cast-metres
overflow_cast-metres g c =
    let old : Rules = rules_of c.args.parts.now in
    let k : ℕ = c.last_at-last.result in
    let last : IsLastAt old.places c.args.place k = rw c.deref.ensures.value at c.last_at-last.ensures in
    let next : c.index.result.now ≡ get_or old.places (k + 1) 0 = get_or_read old.places (k + 1) _ last.there c.index.ensures 0 in
    let inside : k < length old.steps = omega (arith, last.there, c.requires.shaped.places) in
    omega (arith, next, last.at, c.requires.shaped.metres k inside, (c.requires.shaped.numbers k inside).metres.1)

pub row_left-first-requires-clause-within : goal.row_left-first-requires-clause-within
row_left-first-requires-clause-within g c =
    let old : Rules = rules_of c.args.parts.now in
    let k : ℕ = c.last_at-last.result in
    let last : IsLastAt old.places c.args.place k = rw c.deref.ensures.value at c.last_at-last.ensures in
    let next : c.index.result.now ≡ get_or old.places (k + 1) 0 = get_or_read old.places (k + 1) _ last.there c.index.ensures 0 in
    let inside : k < length old.steps = omega (arith, last.there, c.requires.shaped.places) in
    let row : c.index-2.result.now ≡ step_at old k = get_or_read old.steps k _ inside c.index-2.ensures no_step in
    rw row (omega (arith, next, last.at, c.requires.shaped.metres k inside))

pub returns-clause-advanced : goal.returns-clause-advanced
returns-clause-advanced g c =
    let old : Rules = rules_of c.args.parts.now in
    let k : ℕ = c.last_at-last.result in
    let last : IsLastAt old.places c.args.place k = rw c.deref.ensures.value at c.last_at-last.ensures in
    let next : c.index.result.now ≡ get_or old.places (k + 1) 0 = get_or_read old.places (k + 1) _ last.there c.index.ensures 0 in
    let inside : k < length old.steps = omega (arith, last.there, c.requires.shaped.places) in
    let row : c.index-2.result.now ≡ step_at old k = get_or_read old.steps k _ inside c.index-2.ensures no_step in
    record {
      last = k;
      last_is = last;
      start_is = refl;
      top_is = refl;
      traction_is = refl;
      brake_is = refl;
      length_is = refl;
      places_are = c.begin_at-2.ensures;
      steps_are = c.begin_at.ensures ∙ ap (λ (n : StepNumbers). n ∷ drop (k + 1) old.steps)
          (c.row_left-first.ensures.value ∙ ap (λ (n : StepNumbers). shortened n (c.index.result.now - c.args.place)) row ∙ ap (λ (x : ℕ). shortened (step_at old k) (x - c.args.place)) next);
      limits_are = omega (
        arith,
        ap (λ (xs : List ℕ). length xs) c.drop_front.ensures,
        length-drop k old.limits,
        c.requires.shaped.limits,
        inside,
        left_count c.row_left-first.result k old.steps c.begin_at.new.items.items c.begin_at.ensures inside,
      );
      stops_are = c.begin_at-3.ensures;
      dwells_are = c.begin_at-4.ensures;
      timings_are =
          let same : to_z w64 (of_z w64 c.args.later) ≡ c.args.later = omega (arith, ints, c.requires.later) in
          subst (λ (z : ℤ). AreTimingsFrom old.timings k z c.leave_behind.new.timings.items) same c.leave_behind.ensures;
    }

pub returns-clause-shaped : goal.returns-clause-shaped
returns-clause-shaped g c =
    advanced_shaped (rules_of c.args.parts.now) _ c.args.place c.args.speed c.args.later c.requires.shaped (returns-clause-advanced g c) c.requires.speed c.requires.moves c.requires.later c.requires.in_range
    (λ i. omega (arith, ap (λ (xs : List ℕ). get_or xs i 0) c.drop_front.ensures, get_or-drop c.last_at-last.result c.args.parts.now.limits.items i 0, c.requires.shaped.low_limits (c.last_at-last.result + i)))

pub returns-clause-counted : goal.returns-clause-counted
returns-clause-counted g c =
    let old : Rules = rules_of c.args.parts.now in
    let k : ℕ = c.last_at-last.result in
    let last : IsLastAt old.places c.args.place k = rw c.deref.ensures.value at c.last_at-last.ensures in
    let next : c.index.result.now ≡ get_or old.places (k + 1) 0 = get_or_read old.places (k + 1) _ last.there c.index.ensures 0 in
    let inside : k < length old.steps = omega (arith, last.there, c.requires.shaped.places) in
    let row : c.index-2.result.now ≡ step_at old k = get_or_read old.steps k _ inside c.index-2.ensures no_step in
    record {
      kept = λ h. c.row_left-first.ensures.kept (rw (next, row) (whole_step old c.args.place k c.requires.shaped last h));
      made = λ h. c.row_left-first.ensures.made (rw (next, row) (part_of_step old c.args.place k c.requires.shaped last h));
    }
