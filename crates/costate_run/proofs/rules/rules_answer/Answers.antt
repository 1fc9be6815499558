use Rattle.std.proofs.Common.{inl, inr}
use Rattle.command_files.specs.declared.answer.Answer.{Answer}
use Rattle.run_parts.specs.Runs.{IsNoDriveAnswer, IsSomeLateAnswer}
use Rattle.costate_run.specs.Plan.{IsReported}
use Rattle.costate_run.proofs.AnswerLemmas.{ok_map}
use Rattle.costate_run.proofs.rules.rules_answer.Goals as goal

pub returns-in-NoDrive : goal.returns-in-NoDrive
returns-in-NoDrive g c =
    ok_map c.no_drive_answer.result (λ (a : Answer). IsNoDriveAnswer c.args.rules.now a.status a.text.items) _ (λ a h. inl h) c.no_drive_answer.ensures

pub returns-in-Late : goal.returns-in-Late
returns-in-Late g c =
    ok_map c.late_answer.result (λ (a : Answer). IsSomeLateAnswer c.args.rules.now a.status a.text.items) _ (λ a h. inr (inl h)) c.late_answer.ensures

pub returns-in_ok-certificate-in-Drive : goal.returns-in_ok-certificate-in-Drive
returns-in_ok-certificate-in-Drive g c =
    ok_map c.report_answer.result
    (λ (a : Answer). IsReported (g.C.StepCost.cost c.args.cost.now) c.args.share c.args.rules.now c.args.tolerance c.args.regeneration a.status a.text.items) _
    (λ a h. inr (inr h)) c.report_answer.ensures
