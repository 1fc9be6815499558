use Rattle.std.proofs.Common.{length, ◌≡◌, ◌≤◌, ◌<◌, get_or, arith}
use Rattle.advice_session.proofs.PlaceLaws.{behind_at}
use Rattle.advice_session.proofs.points.point_behind.Goals as goal

pub returns-then-place-clause-value : goal.returns-then-place-clause-value
returns-then-place-clause-value c =
    let there : c.loop-k.k ≤ length c.args.rules.now.places = omega (arith, c.known.ensures.places) in
    let behind : c.args.place < get_or c.args.rules.now.places c.loop-k.k 0 = omega (arith, c.place.ensures.value) in
    behind_at c.args.rules.now.places c.args.place c.loop-k.k there c.loop-k.invariant (λ _. behind)

pub returns-clause-value : goal.returns-clause-value
returns-clause-value c =
    let all : c.points-points.result ≡ length c.args.rules.now.places = omega (arith, c.known.ensures.places) in
    let there : c.points-points.result ≤ length c.args.rules.now.places = omega (arith, all) in
    behind_at c.args.rules.now.places c.args.place c.points-points.result there (λ j b. c.loop-k.invariant j (omega (arith, b))) (λ l. absurd (omega (arith, l, all)))
