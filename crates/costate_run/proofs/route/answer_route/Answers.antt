use Rattle.std.proofs.Common.{None, inr}
use Rattle.rail_specs.specs.Cost.{traction_cost}
use Rattle.command_files.specs.declared.answer.Answer.{Answer}
use Rattle.costate_run.specs.Plan.{IsPlanAnswer}
use Rattle.costate_run.proofs.AnswerLemmas.{ok_map, rules_answered}
use Rattle.costate_run.proofs.route.answer_route.Goals as goal

pub returns-in-Read-clause-may : goal.returns-in-Read-clause-may
returns-in-Read-clause-may g c =
    let says = rw c.in-Read.is at c.in_ok-said.ensures.stage in
    let counted = rw c.in-Read.is at c.in_ok-said.ensures.counted in
    ok_map c.rules_answer.result
    (λ (a : Answer). IsPlanAnswer traction_cost 0 c.in-Read.said.0 c.args.asked.now.tolerance None a.status a.text.items) _
    (λ a h. inr (
      c.in-Read.said,
      (
        says,
        rules_answered traction_cost 0 c.args.asked.now.tolerance None c.args.steps.now c.read_all.new.steps
            c.in-Read.said.0 a.status a.text.items counted h,
      ),
    ))
    c.rules_answer.ensures
