use Rattle.std.proofs.Common.{arith}
use Rattle.run_picture.proofs.ticks.put_speed_tick.Goals as goal

pub overflow_mul-speed : goal.overflow_mul-speed
overflow_mul-speed c = rw c.speed_step.ensures.value (omega arith)
