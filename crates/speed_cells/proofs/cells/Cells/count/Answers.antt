use Rattle.std.proofs.Common.{arith}
use Rattle.speed_cells.proofs.Points.{count_of}
use Rattle.speed_cells.proofs.cells.Cells.count.Goals as goal

pub returns : goal.returns
returns c = omega (arith, count_of c.self.inside c.args.self.now c.self.invariant c.self.view_is)
