use Rattle.std.proofs.Common.{◌≡◌, None}
use Rattle.rail_base.specs.First.{first_below}
use Rattle.run_sheet.specs.Timetable.{latest_of}
use Rattle.run_sheet.proofs.calls.latest_at.Given as goal

abbrev pub invariant-loop-j : goal.invariant-loop-j
invariant-loop-j l = first_below (latest_of l.rules l.k) l.j ≡ None
