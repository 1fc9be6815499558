use Rattle.std.proofs.Common.{◌≡◌, length}
use Rattle.base_tests.proofs.rule_change_tests.limits_are_those_of_the_last_stretch.Given as goal

abbrev pub invariant-loop-from : goal.invariant-loop-from
invariant-loop-from g l = record { four : length l.rules.steps ≡ 4 }
