use Rattle.std.proofs.Common.{ℕ, ◌≡◌, ◌<◌, ◌≤◌, ◌-◌, length, false}
use Rattle.rail_specs.specs.Rules.{is_stop}
use Rattle.speed_envelopes.proofs.narrowings.next_stop.Given as goal

abbrev pub invariant-loop-stop : goal.invariant-loop-stop
invariant-loop-stop l = record {
  after : l.k < l.stop;
  within : l.stop ≤ length l.rules.steps;
  none : (i : ℕ) → l.k < i → i < l.stop → is_stop l.rules i ≡ false;
}

abbrev pub decreases-loop-stop : goal.decreases-loop-stop
decreases-loop-stop l = length l.rules.steps - l.stop
