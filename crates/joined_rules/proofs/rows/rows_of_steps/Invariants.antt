use Rattle.std.proofs.Common.{ℕ, ◌≡◌, ◌<◌, ◌-◌, ◌+◌, length, get_or, pos}
use Rattle.rail_specs.specs.Rules.{no_step}
use Rattle.rail_specs.specs.Step.{step_of_train}
use Rattle.train_file.specs.Shape.{numbers_of}
use Rattle.joined_rules.specs.Joined.{IsTooGreat}
use Rattle.joined_rules.proofs.rows.rows_of_steps.Given as goal

abbrev pub invariant-loop-i : goal.invariant-loop-i
invariant-loop-i g l = record {
  count : length l.rows.items ≡ l.i;
  each : (j : ℕ) → j < length l.rows.items → get_or l.rows.items j no_step ≡ step_of_train (numbers_of l.train) (get_or l.places (j + 1) 0 - get_or l.places j 0) (get_or l.gradients j (pos 0));
  light : (j : ℕ) → j < l.i → IsTooGreat l.train l.places j → ⊥;
  counted : l.steps ≡ l.fn.steps + l.i;
}
