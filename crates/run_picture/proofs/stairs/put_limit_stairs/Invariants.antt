use Rattle.std.proofs.Common.{◌≡◌, ◌++◌}
use Rattle.sheet_parts.specs.Fill.{joined_below}
use Rattle.run_picture.specs.Stairs.{limit_stair}
use Rattle.run_picture.proofs.stairs.put_limit_stairs.Given as goal

abbrev pub invariant-loop-i : goal.invariant-loop-i
invariant-loop-i l = l.out.items ≡ l.initial.out.items ++ joined_below (limit_stair l.axes l.rules) l.i
