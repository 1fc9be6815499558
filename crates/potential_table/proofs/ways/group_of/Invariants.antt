use Rattle.std.proofs.Common.{ℕ, ◌<◌, ◌≤◌}
use Rattle.potential_table.specs.Ways.{way_at, IsUsable, StandsFor}
use Rattle.potential_table.proofs.ways.group_of.Given as goal

-- the way stands for those of the group so far
abbrev pub invariant-loop-j : goal.invariant-loop-j
invariant-loop-j l = record {
  usable : IsUsable l.group;
  each : (j : ℕ) → l.start ≤ j → j < l.j → StandsFor l.group (way_at l.ways j);
}
