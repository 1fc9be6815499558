use Rattle.std.proofs.Common.{◌≡◌, drop}
use Rattle.run_picture.specs.Scale.{first_enough, round_numbers}
use Rattle.run_picture.proofs.scaling.round_step.Given as goal

abbrev pub invariant-loop-i : goal.invariant-loop-i
invariant-loop-i l = first_enough (drop l.i round_numbers) l.size l.steps ≡ first_enough round_numbers l.size l.steps
