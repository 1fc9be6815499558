use Rattle.std.proofs.Common.{arith, inr}
use Rattle.command_files.specs.declared.answer.Answer.{Answer}
use Rattle.rail_specs.specs.Cost.{regained_cost}
use Rattle.run_parts.specs.Runs.{regeneration_of}
use Rattle.costate_run.specs.Plan.{IsPlanAnswer}
use Rattle.costate_run.proofs.AnswerLemmas.{ok_map}
use Rattle.costate_run.proofs.plan.joined_answer.Goals as goal

pub returns-in-Read : goal.returns-in-Read
returns-in-Read g c =
    let train = c.args.train.now in
    let w = c.args.asked.now in
    let says = rw c.in-Read.is at c.in_ok-rules.ensures.stage in
    let counted = rw c.in-Read.is at c.in_ok-rules.ensures.counted in
    ok_map c.rules_answer.result
    (λ (a : Answer). IsPlanAnswer (regained_cost train.regeneration) train.regeneration c.in-Read.rules w.tolerance (regeneration_of train) a.status a.text.items) _
    (λ a h. inr (c.in-Read.rules, (says, (omega (arith, counted), h)))) (rw c.regeneration_of-said.ensures at c.rules_answer.ensures)

pub rules_answer-requires-clause-covers : goal.rules_answer-requires-clause-covers
rules_answer-requires-clause-covers g c = c.costs_cover_work.ensures.regained c.args.train.now.regeneration
