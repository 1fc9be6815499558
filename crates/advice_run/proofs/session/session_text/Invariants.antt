use Rattle.advice_run.specs.Session.{AreTaken, IsAdvice}
use Rattle.advice_run.proofs.session.session_text.Given as goal

abbrev pub invariant-loop-i : goal.invariant-loop-i
invariant-loop-i g l =
    AreTaken (IsAdvice (g.C.StepCost.cost l.fn.cost) l.fn.options.splits l.fn.options.tolerance l.fn.regeneration) l.initial.session l.fn.events l.i l.session l.text.items l.initial.steps l.steps
