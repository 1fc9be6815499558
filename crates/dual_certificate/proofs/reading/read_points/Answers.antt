use Rattle.std.proofs.Common.{◌+◌}
use Rattle.std.proofs.lemmas.Result.{err_from_is_err_and}
use Rattle.dual_certificate.specs.Grammar.{points_at}
use Rattle.dual_certificate.proofs.PointLists.{goes_on, ends, is_done}
use Rattle.dual_certificate.proofs.reading.read_points.Goals as goal

pub returns-in_err-point : goal.returns-in_err-point
returns-in_err-point c =
    let p = err_from_is_err_and c.from_residual.result c.from_residual.ensures.1 in
    rw (p.1, p.2) (ends c.in_err-point.field-0.0 c.loop-i.points c.args.count c.loop-i.i c.loop-i.room c.loop-i.text (points_at c.args.count 6 54001 c.args.text.now) c.loop-i-test.true
    c.in_err-point.ensures.value c.loop-i.invariant)

pub loop-i-preserved : goal.loop-i-preserved
loop-i-preserved c =
    let a = c.in_ok-push.ensures in
    let b = c.items.ensures in
    let on = goes_on c.loop-i.points c.args.count c.loop-i.i c.loop-i.room c.loop-i.text c.in_ok-point.point c.read_point.new.text (points_at c.args.count 6 54001 c.args.text.now)
    c.loop-i-test.true c.in_ok-point.ensures.value c.loop-i.invariant in
    rw (a, b) on

pub returns : goal.returns
returns c = is_done c.loop-i.points c.args.count c.loop-i.i (6 + c.loop-i.i) c.loop-i.room c.loop-i.text (points_at c.args.count 6 54001 c.args.text.now) c.loop-i-test.false c.loop-i.invariant
