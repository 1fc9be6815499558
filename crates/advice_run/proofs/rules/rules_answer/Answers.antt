use Rattle.std.proofs.Common.{inr}
use Rattle.command_files.specs.declared.answer.Answer.{Answer}
use Rattle.advice_run.specs.Plan.{IsReported}
use Rattle.advice_run.proofs.AnswerLemmas.{ok_map}
use Rattle.advice_run.proofs.rules.rules_answer.Goals as goal

pub returns-in-Drive : goal.returns-in-Drive
returns-in-Drive g c =
    ok_map c.plan_answer.result
    (λ (a : Answer). IsReported (g.C.StepCost.cost c.args.cost.now) c.args.rules.now c.args.options.splits c.args.options.tolerance c.args.regeneration a.status a.text.items c.in-Drive.plan) _
    (λ a h. inr (inr (c.in-Drive.plan, h))) c.plan_answer.ensures
