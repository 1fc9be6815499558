use Rattle.std.proofs.Common.{ℕ, ◌≡◌, ◌≤◌, ◌<◌, ◌*◌, length, pos, ◌≤ℤ◌}
use Rattle.rail_specs.specs.Rules.{timing_at}
use Rattle.rail_specs.specs.Times.{arrival_up}
use Rattle.drive_rules.proofs.rules.Rules.late_at.Given as goal

abbrev pub invariant-loop-j : goal.invariant-loop-j
invariant-loop-j l = record {
  none : (h : ℕ) → h < l.j → pos (arrival_up l.self l.speeds (timing_at l.self h).point) ≤ℤ (timing_at l.self h).latest;
  within : l.point ≤ length l.self.steps;
  behind : l.j < length l.timings → l.point ≤ (timing_at l.self l.j).point;
  value : l.time ≡ arrival_up l.self l.speeds l.point;
  early : l.time ≤ 210000000 * l.point;
}
