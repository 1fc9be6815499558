use Rattle.std.proofs.Common.{arith, ◌∙◌, sym}
use Rattle.std.proofs.lemmas.Bool.{le-leb, lt-leb}
use Rattle.run_picture.specs.Scale.{round_step, round_numbers}
use Rattle.run_picture.proofs.ScaleLemmas.{first_enough-here, first_enough-next}
use Rattle.run_picture.proofs.scaling.round_step.Goals as goal

pub returns-then-size-steps-clause-value : goal.returns-then-size-steps-clause-value
unfolding round_step
returns-then-size-steps-clause-value c =
    sym (first_enough-here round_numbers c.loop-i.i c.args.size c.args.steps (omega arith) (le-leb _ _ c.if-size-steps.true)) ∙ c.loop-i.invariant

pub loop-i-preserved : goal.loop-i-preserved
loop-i-preserved c =
    sym (first_enough-next round_numbers c.loop-i.i c.args.size c.args.steps (omega arith) (lt-leb _ _ c.if-size-steps.false)) ∙ c.loop-i.invariant
