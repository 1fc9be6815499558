use Rattle.std.proofs.Common.{◌≡◌, ◌++◌}
use Rattle.sheet_parts.specs.Fill.{joined_below}
use Rattle.run_sheet.specs.Timetable.{line_of_call}
use Rattle.run_sheet.proofs.calls.put_calls.Given as goal

abbrev pub invariant-loop-j : goal.invariant-loop-j
invariant-loop-j l = l.out.items ≡ l.initial.out.items ++ joined_below (line_of_call l.rules l.speeds l.calls l.names) l.j
