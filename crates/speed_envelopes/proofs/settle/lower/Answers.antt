use Rattle.std.proofs.Common.{arith, ◌≢◌, ◌∙◌, sym, to_z, of_z, w64}
use Rattle.std.proofs.lemmas.Int.{ints}
use Rattle.speed_envelopes.proofs.Lowering.{lowered, apart, floor_at}
use Rattle.speed_envelopes.proofs.settle.lower.Goals as goal

pub returns-clause-some : goal.returns-clause-some
returns-clause-some c =
    let ne : c.opposite.result ≢ c.point-point.result = λ e. apart c.args.end c.args.i (sym c.opposite.ensures ∙ e ∙ c.point-point.ensures) in
    lowered c.args.bounds.now c.args.end c.args.i c.args.levels.now c.point-point.result c.opposite.result c.in-Some.level c.floor-least.result (to_z w64 (of_z w64 c.gives-given.result))
    c.requires.step c.requires.floored c.point-point.ensures c.opposite.ensures ne c.floor-least.ensures (omega (arith, ints)) (λ k. absurd (omega (arith, ints)))
    (omega (arith, floor_at c.args.bounds.now c.args.end c.args.i c.args.levels.now c.point-point.result c.requires.step c.requires.floored c.point-point.ensures))
    c.in-Some.ensures
