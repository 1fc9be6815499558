use Rattle.std.proofs.Common.{ℕ, ◌≤◌, ◌<◌, ◌-◌, ◌+◌, ◌*◌}
use Rattle.std.specs.Prelude.{sum}
use Rattle.speed_envelopes.specs.Levels.{AreFloored, IsBelow, Covers, IsLevelStep}
use Rattle.speed_envelopes.proofs.settle.settle.Given as goal

abbrev pub invariant-loop-i : goal.invariant-loop-i
invariant-loop-i l = record {
  within : l.i ≤ l.steps;
  floored : AreFloored l.bounds l.levels;
  below : IsBelow l.levels l.fn.levels;
  covers : Covers l.bounds l.fn.levels l.levels;
  kept : (j : ℕ) → j < l.i → IsLevelStep l.bounds l.levels j;
}

abbrev pub decreases-loop-i : goal.decreases-loop-i
decreases-loop-i l = 2 * sum l.levels + (l.steps - l.i)
