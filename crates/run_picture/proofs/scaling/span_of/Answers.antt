use Rattle.std.proofs.Common.{arith, ◌+◌, ◌≤◌}
use Rattle.std.specs.Prelude.{slice_index}
use Rattle.run_picture.proofs.ScaleLemmas.{places-rise}
use Rattle.run_picture.proofs.scaling.span_of.Goals as goal

pub overflow_sub-result : goal.overflow_sub-result
overflow_sub-result c =
    let rise : slice_index c.args.rules.now.places 0 + c.steps.result ≤ slice_index c.args.rules.now.places c.steps.result = places-rise c.args.rules.now c.known.ensures c.steps.result (omega arith) in
    omega (arith, rise)

pub returns-clause-some : goal.returns-clause-some
returns-clause-some c =
    let rise : slice_index c.args.rules.now.places 0 + c.steps.result ≤ slice_index c.args.rules.now.places c.steps.result = places-rise c.args.rules.now c.known.ensures c.steps.result (omega arith) in
    omega (arith, rise)
