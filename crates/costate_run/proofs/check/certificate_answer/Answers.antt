use Rattle.std.proofs.Common.{◌∙◌, List, ℕ, inr, subst}
use Rattle.command_files.specs.declared.answer.Answer.{Answer}
use Rattle.run_parts.specs.Reports.{IsRefusedIn}
use Rattle.costate_run.specs.Check.{IsCertificateAnswer}
use Rattle.costate_run.proofs.AnswerLemmas.{ok_map}
use Rattle.costate_run.proofs.check.certificate_answer.Goals as goal

pub returns-in_ok-words-in-Err : goal.returns-in_ok-words-in-Err
returns-in_ok-words-in-Err g c =
    let e = c.in-Err.ensures in
    let sound = c.in_ok-words-in-Err.ensures.sound in
    ok_map c.refused_in.result
    (λ (a : Answer). IsRefusedIn c.as_slice.result.now a.status a.text.items)
    (λ (a : Answer). IsCertificateAnswer (g.C.StepCost.cost c.args.cost.now) c.args.share c.args.rules.now c.args.certificate.now a.status a.text.items)
    (λ a h. inr (
      c.in-Err.refused,
      record {
        sound = sound;
        fails = e.fails sound;
        early = e.early;
        late = e.late;
        says = subst (λ (words : List ℕ). IsRefusedIn words a.status a.text.items) (c.as_slice.ensures.value ∙ c.in_ok-words-in-Err.ensures.words) h;
      },
    ))
    c.refused_in.ensures
