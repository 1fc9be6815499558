use Rattle.std.proofs.Common.{◌≡◌, ◌++◌, ◌<◌, ◌≤◌, length}
use Rattle.dual_certificate.specs.Part.{IsPassed}
use Rattle.drive_report.specs.Report.{run_start, phase_lines}
use Rattle.drive_report.proofs.reports.put_phases.Given as goal

abbrev pub invariant-loop-i : goal.invariant-loop-i
invariant-loop-i l = record {
  begun : l.from ≤ l.i;
  start : l.i < length l.rules.steps → run_start l.rules l.speeds l.i ≡ l.from;
  text : l.out.items ≡ l.initial.out.items ++ phase_lines l.rules l.speeds l.i;
  passed : IsPassed (phase_lines l.rules l.speeds l.i);
}
