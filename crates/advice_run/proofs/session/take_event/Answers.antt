use Rattle.std.proofs.Common.{◌+◌, ◌≤◌}
use Rattle.advice_session.specs.Folds.{event_fault}
use Rattle.advice_run.specs.Session.{IsAdvice, Takes, rows_of}
use Rattle.advice_run.proofs.SessionLemmas.{advised, applied, both_ok, rises}
use Rattle.advice_run.proofs.session.take_event.Goals as goal

pub returns : goal.returns
returns g c =
    let s = c.args.session.now in
    let e = c.args.event.now in
    let t = c.apply-outcome.new.self in
    let outcome = c.apply-outcome.result in
    let was = c.apply-outcome.ensures in
    let put = c.put_outcome.ensures in
    record {
      taken = both_ok c.put_outcome.result _ _ _
          (λ sound says. applied (IsAdvice (g.C.StepCost.cost c.args.cost.now) c.args.options.splits c.args.options.tolerance c.args.regeneration) s t e
          c.args.out.now.items c.put_outcome.new.out.items outcome c.in_default.not-Advise sound was.answer was.changed was.kept c.known-2.ensures.rules says)
          put.sound put.text;
      counted = both_ok c.put_outcome.result _ _ _
          (λ sound says. rises s e outcome c.args.steps.now c.apply-outcome.new.steps sound was.answer was.counted)
          put.sound put.text;
    }

pub returns-in-Advise-clause-taken : goal.returns-in-Advise-clause-taken
returns-in-Advise-clause-taken g c =
    let advice = c.in_ok-advice.advice in
    advised (IsAdvice (g.C.StepCost.cost c.args.cost.now) c.args.options.splits c.args.options.tolerance c.args.regeneration) c.args.session.now c.args.event.now
    c.args.out.now.items c.extend_from_slice.new.self.items advice.text.items c.in-Advise.is c.known.ensures.rules
    (advice.status, rw c.rules.ensures.value at c.in_ok-advice.ensures) (rw c.as_slice.ensures.value at c.in_ok-extend_from_slice.ensures.items)
