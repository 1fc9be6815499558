use Rattle.std.proofs.Common.{◌≡◌, ◌++◌}
use Rattle.sheet_parts.specs.Fill.{joined_below}
use Rattle.run_picture.specs.Ticks.{speed_tick}
use Rattle.run_picture.proofs.ticks.put_speed_ticks.Given as goal

abbrev pub invariant-loop-k : goal.invariant-loop-k
invariant-loop-k l = l.out.items ≡ l.initial.out.items ++ joined_below (speed_tick l.axes) l.k
