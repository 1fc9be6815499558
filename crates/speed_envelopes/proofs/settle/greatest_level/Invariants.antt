use Rattle.std.proofs.Common.{ℕ, ◌≤◌, ◌<◌, ◌-◌}
use Rattle.std.specs.Prelude.{◌≤ℤ◌}
use Rattle.speed_envelopes.specs.Bounds.{asks}
use Rattle.speed_envelopes.proofs.settle.greatest_level.Given as goal

abbrev pub invariant-loop-low : goal.invariant-loop-low
invariant-loop-low l = record {
  least : l.least ≤ l.low;
  ordered : l.low ≤ l.high;
  most : l.high ≤ l.most;
  enough : l.least < l.low → asks l.bounds l.end l.i l.low ≤ℤ l.given;
  above : (w : ℕ) → w ≤ l.most → asks l.bounds l.end l.i w ≤ℤ l.given → w ≤ l.high;
}

abbrev pub decreases-loop-low : goal.decreases-loop-low
decreases-loop-low l = l.high - l.low
