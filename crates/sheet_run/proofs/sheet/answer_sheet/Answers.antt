use Rattle.std.proofs.Common.{◌-◌, inr}
use Rattle.command_files.specs.declared.answer.Answer.{Answer}
use Rattle.sheet_run.specs.Outcome.{IsJoinedSheet}
use Rattle.sheet_run.proofs.AnswerLemmas.{ok_map, joined_shown}
use Rattle.sheet_run.proofs.sheet.answer_sheet.Goals as goal

pub returns-in-Read-clause-may : goal.returns-in-Read-clause-may
returns-in-Read-clause-may g c =
    let w = c.args.asked.now in
    let said = c.in-Read.said in
    let says = rw c.in-Read.is at c.in_ok-said.ensures.stage in
    let counted = rw c.in-Read.is at c.in_ok-said.ensures.counted in
    ok_map c.joined_sheet.result
    (λ (a : Answer). IsJoinedSheet said.0 said.1.0 said.1.1.0 said.1.1.1.0 w.step w.form (c.joined_sheet.new.steps - c.read_all.new.steps) a.status a.text.items) _
    (λ a h. inr (
      said,
      (
        says,
        joined_shown said.0 said.1.0 said.1.1.0 said.1.1.1.0 w.step w.form c.args.steps.now c.read_all.new.steps c.joined_sheet.new.steps a.status a.text.items counted h,
      ),
    ))
    (rw c.bytes.ensures at c.joined_sheet.ensures)
