use Rattle.std.proofs.Common.{◌≡◌, ◌≤◌, ◌*◌}
use Rattle.rail_specs.specs.Times.{standing_before}
use Rattle.drive_rules.proofs.rules.Rules.standing.Given as goal

abbrev pub invariant-loop-i : goal.invariant-loop-i
invariant-loop-i l = record {
  value : l.sum ≡ standing_before l.self l.i;
  small : l.sum ≤ 7200000 * l.i;
}
