use Rattle.std.proofs.Common.{arith}
use Rattle.speed_cells.proofs.Points.{whole_in}
use Rattle.speed_cells.proofs.cells.Cells.whole.Goals as goal

pub returns : goal.returns
returns c =
    let v = c.loop-first in
    let kept = c.loop-first.invariant in
    whole_in v.starts.items v.firsts.items v.lasts.items c.args.pairs.now (omega arith)
    (λ k le. kept.start k (omega arith)) (λ k lt. kept.first k (omega arith)) (λ k lt. kept.last k (omega arith))
