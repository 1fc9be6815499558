use Rattle.std.proofs.Common.{arith, ◌≡◌, ◌<◌, ◌∙◌, ap, sym, subst, length, List, [], ◌∷◌, ◌++◌, ℕ, ℤ, pos, to_z, of_z, codes}
use Rattle.std.specs.Prelude.{slice_index, slice_index_or}
use Rattle.std.proofs.lemmas.Int.{ints}
use mir.Syntax.{w64, w128}
use Rattle.rail_specs.specs.declared.Timing.{Timing}
use Rattle.rail_specs.specs.Rules.{no_timing, timing_at}
use Rattle.rail_base.specs.Texts.{spaced}
use Rattle.drive_report.proofs.AppendLemmas.{appended_five}
use Rattle.drive_report.proofs.late_texts.put_late.Goals as goal

pub returns : goal.returns
returns c =
    let r = c.args.rules.now in
    let j : ℕ = c.args.timing in
    let same = c.timings.ensures.value in
    let there : j < length c.timings.result.now = subst (λ (ts : List Timing). j < length ts) (sym same) c.requires in
    let small = (c.timings.ensures.within j no_timing there).2 in
    let latest : ℤ = (slice_index_or c.timings.result.now j no_timing).latest in
    let place : to_z w128 c.place.result ≡ pos c.place.result = omega (arith, ints) in
    let arrival : to_z w128 c.args.arrival ≡ pos c.args.arrival = omega (arith, ints) in
    let wide : to_z w128 (of_z w128 (to_z w64 (of_z w64 latest))) ≡ latest = omega (arith, ints) in
    let at_place : c.place.result ≡ slice_index r.places (timing_at r j).point =
    c.place.ensures.value ∙ ap (λ (ts : List Timing). slice_index r.places (slice_index_or ts j no_timing).point) same in
    let at_latest : latest ≡ (timing_at r j).latest = ap (λ (ts : List Timing). (slice_index_or ts j no_timing).latest) same in
    appended_five c.args.out.now.items c.extend_from_slice.new.self.items c.put_spaced.new.out.items
    c.put_spaced-2.new.out.items c.put_spaced-3.new.out.items c.push.new.self.items
    (codes "late") (spaced (pos (slice_index r.places (timing_at r j).point))) (spaced (pos c.args.arrival))
    (spaced (timing_at r j).latest) (10 ∷ [])
    c.in_ok-extend_from_slice.ensures.items
    (c.in_ok-put_spaced.ensures ∙ ap (λ (z : ℤ). c.extend_from_slice.new.self.items ++ spaced z) (place ∙ ap pos at_place))
    (c.in_ok-put_spaced-2.ensures ∙ ap (λ (z : ℤ). c.put_spaced.new.out.items ++ spaced z) arrival)
    (c.in_ok-put_spaced-3.ensures ∙ ap (λ (z : ℤ). c.put_spaced-2.new.out.items ++ spaced z) (wide ∙ at_latest))
    c.in_ok-push.ensures.items
