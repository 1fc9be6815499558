use Rattle.std.proofs.Common.{◌≡◌, ◌*◌, ◌≤◌}
use Rattle.rail_specs.specs.Times.{sum_below}
use Rattle.run_sheet.specs.Phases.{metres_of}
use Rattle.run_sheet.proofs.phases.phase_metres.Given as goal

abbrev pub invariant-loop-i : goal.invariant-loop-i
invariant-loop-i l = record { value : l.sum ≡ sum_below (metres_of l.rules l.speeds l.phase) l.i; small : l.sum ≤ 1000 * l.i }
