use Rattle.std.proofs.Common.{arith}
use Rattle.run_picture.proofs.scaling.axes_of.Goals as goal

pub new-requires : goal.new-requires
new-requires c = record {
  first = omega arith;
  span = (omega arith, omega arith);
  speed_step = (omega arith, omega arith);
  speed_top = (omega arith, omega arith);
  gradient_step = (omega arith, omega arith);
}
