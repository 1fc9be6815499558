use Rattle.std.proofs.Common.{◌≡◌, ◌++◌}
use Rattle.sheet_parts.specs.Fill.{joined_below}
use Rattle.run_picture.specs.Stairs.{gradient_stair}
use Rattle.run_picture.proofs.stairs.put_gradient_stairs.Given as goal

abbrev pub invariant-loop-i : goal.invariant-loop-i
invariant-loop-i l = l.out.items ≡ l.initial.out.items ++ joined_below (gradient_stair l.axes l.rules) l.i
