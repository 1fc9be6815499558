use Rattle.std.proofs.Common.{ℕ, ℤ, ◌≡◌, ◌≤◌, ◌+◌, ◌*◌, ◌∷◌, List, length, length-append, arith, ap, to_z, of_z, w64}
use Rattle.std.specs.Prelude.{nat_lt}
use Rattle.std.proofs.lemmas.Int.{ints}
use Rattle.std.specs.List.{filter}
use Rattle.std.proofs.lemmas.List.Sums.{length-filter, count_by-le-length}
use Rattle.rail_specs.specs.declared.Timing.{Timing}
use Rattle.rule_changes.specs.Latest.{with_latest}
use Rattle.base_tests.proofs.rule_change_tests.can_set.Goals as goal

few : (timings : List Timing) (point : ℕ) (latest : ℤ) → length (with_latest timings point latest) ≤ 2 * length timings + 1
few timings point latest =
    let before = λ (t : Timing). nat_lt t.point point in
    let behind = λ (t : Timing). nat_lt point t.point in
    let this : Timing = record { point = point; latest = latest } in
    omega (
      arith,
      length-append (filter before timings) (this ∷ filter behind timings),
      length-filter before timings,
      length-filter behind timings,
      count_by-le-length before timings,
      count_by-le-length behind timings,
    )

pub set_latest-requires-clause-room : goal.set_latest-requires-clause-room
set_latest-requires-clause-room c =
    let same : to_z w64 (of_z w64 c.args.latest) ≡ c.args.latest = omega (arith, ints, c.requires.small) in
    let most = few c.args.rules.now.timings c.args.point c.args.latest in
    let timings = ap (λ (xs : List Timing). length xs) c.timings-count.ensures.value in
    rw same (omega (arith, most, timings, c.if-count-gt31.false))
