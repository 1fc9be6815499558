use Rattle.std.proofs.Common.{ℕ, ◌≡◌, ◌<◌, ◌≤◌, length, get_or}
use Rattle.joined_rules.specs.Joined.{dwell_of}
use Rattle.joined_rules.proofs.points.dwells_of_points.Given as goal

abbrev pub invariant-loop-j : goal.invariant-loop-j
invariant-loop-j l = record {
  count : length l.dwells.items ≡ l.j-index;
  each : (k : ℕ) → k < l.j-index → get_or l.dwells.items k 0 ≡ dwell_of l.calls (get_or l.visits k 0);
  short : (k : ℕ) → get_or l.dwells.items k 0 ≤ 7200000;
}
