use Rattle.std.proofs.Common.{ℕ, ◌≡◌, ◌+◌, ◌*◌, ◌<◌, ◌≤◌, length}
use Rattle.potential_table.specs.Ways.{way_at, AreUsable, StandsFor}
use Rattle.potential_table.proofs.ways.groups_of.Given as goal

-- the groups so far
abbrev pub invariant-loop-b : goal.invariant-loop-b
invariant-loop-b l = record {
  count : length l.groups.items ≡ l.b;
  usable : AreUsable l.groups.items;
  each : (b j : ℕ) → b < l.b → 8 * b ≤ j → j < 8 * b + 8 → j < length l.ways → StandsFor (way_at l.groups.items b) (way_at l.ways j);
}
