use Rattle.std.proofs.Common.{◌≡◌, ◌≤◌, ◌*◌}
use Rattle.rail_specs.specs.Times.{arrival_up}
use Rattle.drive_rules.proofs.rules.Rules.time_at.Given as goal

abbrev pub invariant-loop-i : goal.invariant-loop-i
invariant-loop-i l = record {
  value : l.sum ≡ arrival_up l.self l.speeds l.i;
  early : l.sum ≤ 210000000 * l.i;
}
