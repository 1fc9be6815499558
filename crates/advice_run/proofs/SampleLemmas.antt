-- The answers to the rules of a sample.
use Rattle.std.proofs.Common.{ℕ, ◌≡◌, ◌+◌, List, None, length, inr}
use Rattle.rail_specs.specs.Rules.{Rules}
use Rattle.rail_specs.specs.Cost.{traction_cost}
use Rattle.bound_specs.specs.Cells.{cell_count}
use Rattle.planner.specs.declared.answer.Plan.{Plan as PlanData}
use Rattle.advice_run.specs.Plan.{IsReported}
use Rattle.advice_run.specs.Sample.{IsSummaryAnswer, summary_text}

-- the summary of a plan
pub summary_answered : (n : ℕ) (r : Rules) (splits tolerance status : ℕ) (report text : List ℕ) (p : PlanData) → IsReported traction_cost r splits tolerance None status report p
    → text ≡ summary_text n (length r.steps + 1) p.met p.cost p.bound (cell_count p.cells) p.splits → IsSummaryAnswer n r splits tolerance status text
summary_answered n r splits tolerance status report text p reported says = inr (inr (p, record { report = report; answers = reported; says = says }))
