use Rattle.std.proofs.Common.{ℕ, ◌≡◌, ◌<◌, length, get_or, false}
use Rattle.joined_rules.specs.Joined.{is_stop_call}
use Rattle.joined_rules.proofs.points.stops_of_points.Given as goal

abbrev pub invariant-loop-j : goal.invariant-loop-j
invariant-loop-j l = record {
  count : length l.stops.items ≡ l.j-index;
  each : (k : ℕ) → k < l.j-index → get_or l.stops.items k false ≡ is_stop_call l.calls (get_or l.visits k 0);
}
