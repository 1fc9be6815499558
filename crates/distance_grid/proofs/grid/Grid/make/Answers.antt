use Rattle.std.proofs.Common.{arith, length, ap, ℕ}
use Rattle.distance_grid.proofs.Same.{one_grid}
use Rattle.distance_grid.proofs.grid.Grid.make.Goals as goal

pub returns-then-len-gt4001 : goal.returns-then-len-gt4001
returns-then-len-gt4001 c = record {
  span = omega arith;
  many = λ ps g. omega (arith, ap (length {A = ℕ}) (one_grid c.args.marks.now c.args.step c.args.from c.args.to c.in_ok-places.places.items ps c.in_ok-places.ensures g));
}
