use Rattle.std.proofs.Common.{arith}
use Rattle.speed_cells.proofs.Points.{points_of, adjacent_in}
use Rattle.speed_cells.proofs.cells.Cells.known.Goals as goal

pub returns-clause-some : goal.returns-clause-some
returns-clause-some c = omega (arith, points_of c.self.inside c.args.self.now c.self.view_is, c.self.invariant.some)

pub returns-clause-adjacent : goal.returns-clause-adjacent
returns-clause-adjacent c = λ k lt. adjacent_in c.self.inside c.args.self.now k c.self.invariant c.self.view_is lt
