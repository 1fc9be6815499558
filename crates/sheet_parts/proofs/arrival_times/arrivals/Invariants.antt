use Rattle.std.proofs.Common.{ℕ, ◌≡◌, ◌+◌, ◌*◌, ◌≤◌, length, get_or}
use Rattle.rail_specs.specs.Times.{arrival_up}
use Rattle.sheet_parts.proofs.arrival_times.arrivals.Given as goal

abbrev pub invariant-loop-i : goal.invariant-loop-i
invariant-loop-i l = record {
  value : l.time ≡ arrival_up l.rules l.speeds l.i;
  early : l.time ≤ 210000000 * l.i;
  count : length l.times.items ≡ l.i + 1;
  each : (k : ℕ) → k ≤ l.i → get_or l.times.items k 0 ≡ arrival_up l.rules l.speeds k;
  times_early : (k : ℕ) → k ≤ l.i → get_or l.times.items k 0 ≤ 210000000 * k;
}
