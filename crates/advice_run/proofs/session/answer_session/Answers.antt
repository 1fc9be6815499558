use Rattle.std.proofs.Common.{◌-◌, inr}
use Rattle.command_files.specs.declared.answer.Answer.{Answer}
use Rattle.advice_run.specs.Outcome.{IsJoinedSession}
use Rattle.advice_run.proofs.AnswerLemmas.{ok_map}
use Rattle.advice_run.proofs.SessionLemmas.{joined_taken}
use Rattle.advice_run.proofs.session.answer_session.Goals as goal

pub returns-in-Read-clause-may : goal.returns-in-Read-clause-may
returns-in-Read-clause-may g c =
    let w = c.args.asked.now in
    let said = c.in-Read.said in
    let says = rw c.in-Read.is at c.in_ok-said.ensures.stage in
    let counted = rw c.in-Read.is at c.in_ok-said.ensures.counted in
    ok_map c.joined_session.result
    (λ (a : Answer). IsJoinedSession said.0 said.1.0 said.1.1.0 said.1.1.1.0 w.step w.splits w.tolerance
    (c.joined_session.new.steps - c.read_all.new.steps) a.status a.text.items) _
    (λ a h. inr (
      said,
      (
        says,
        joined_taken said.0 said.1.0 said.1.1.0 said.1.1.1.0 w.step w.splits w.tolerance c.args.steps.now c.read_all.new.steps
            c.joined_session.new.steps a.status a.text.items counted h,
      ),
    ))
    (rw c.items-events.ensures at c.joined_session.ensures)
