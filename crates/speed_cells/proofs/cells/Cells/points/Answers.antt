use Rattle.std.proofs.Common.{arith}
use Rattle.speed_cells.proofs.Points.{points_of}
use Rattle.speed_cells.proofs.cells.Cells.points.Goals as goal

pub returns : goal.returns
returns c = omega (arith, points_of c.self.inside c.args.self.now c.self.view_is)
