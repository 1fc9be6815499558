use Rattle.std.proofs.Common.{◌≡◌, ◌≤◌, ◌<◌, ◌*◌, ◌++◌, length, take}
use Rattle.std.specs.List.{flat_map}
use Rattle.rail_specs.specs.Rules.{timing_at}
use Rattle.rail_specs.specs.Times.{arrival_up}
use Rattle.dual_certificate.specs.Part.{IsPassed}
use Rattle.drive_report.specs.Report.{time_line}
use Rattle.drive_report.proofs.reports.put_times.Given as goal

abbrev pub invariant-loop-j : goal.invariant-loop-j
invariant-loop-j l = record {
  text : l.out.items ≡ l.initial.out.items ++ flat_map (time_line l.rules l.speeds) (take l.j l.timings);
  passed : IsPassed (flat_map (time_line l.rules l.speeds) (take l.j l.timings));
  behind : l.j < length l.timings → l.point ≤ (timing_at l.rules l.j).point;
  value : l.time ≡ arrival_up l.rules l.speeds l.point;
  early : l.time ≤ 210000000 * l.point;
}
