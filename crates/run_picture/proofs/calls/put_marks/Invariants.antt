use Rattle.std.proofs.Common.{◌≡◌, ◌++◌}
use Rattle.sheet_parts.specs.Fill.{joined_below}
use Rattle.run_picture.specs.Calls.{time_mark}
use Rattle.run_picture.proofs.calls.put_marks.Given as goal

abbrev pub invariant-loop-j : goal.invariant-loop-j
invariant-loop-j l = l.out.items ≡ l.initial.out.items ++ joined_below (time_mark l.axes l.rules l.calls) l.j
