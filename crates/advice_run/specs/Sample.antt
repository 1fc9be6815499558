-- The answer to `sample`: which text and which status the number of a sample allows.
use Rattle.std.specs.Prelude.{ℕ, ℤ, pos, ◌≡◌, ◌+◌, ◌++◌, ◌⊎◌, Bool, List, None, codes, length}
use Rattle.rail_base.specs.Texts.{number_line}
use Rattle.rail_specs.specs.Rules.{Rules}
use Rattle.rail_specs.specs.Cost.{traction_cost}
use Rattle.bound_specs.specs.Cells.{cell_count}
use Rattle.planner.specs.declared.answer.Plan.{Plan as PlanData}
use Rattle.drive_report.specs.Report.{gap_line}
use Rattle.sample_rules.specs.SampleRules.{IsSampleRules}
use Rattle.run_parts.specs.Runs.{IsNoDriveAnswer, IsSomeLateAnswer}
use Rattle.advice_run.specs.Plan.{IsReported}

-- the summary of a plan for sample n: how many points its grid has, whether the gap is met, the energy and the bound in 0.5 microjoule, how
-- many cells the bound has and how many splits made them
abbrev pub summary_text : ℕ → ℕ → Bool → ℤ → ℤ → ℕ → ℕ → List ℕ
summary_text n points met energy bound cells splits =
    number_line (codes "sample") (pos n) ++ number_line (codes "points") (pos points) ++ gap_line met
    ++ number_line (codes "energy") energy ++ number_line (codes "bound") bound
    ++ number_line (codes "cells") (pos cells) ++ number_line (codes "splits") (pos splits)

-- there is a report which is an answer to a plan for these rules, with this status, and the text is the summary of that plan
pub record IsSummary (n : ℕ) (r : Rules) (splits tolerance status : ℕ) (text : List ℕ) (p : PlanData) : Type 0 where
  pub report : List ℕ
  pub answers : IsReported traction_cost r splits tolerance None status report p
  pub says : text ≡ summary_text n (length r.steps + 1) p.met p.cost p.bound (cell_count p.cells) p.splits

-- the text and the status are an answer for the rules of sample n: no drive, none on time, or the summary of a plan
abbrev pub IsSummaryAnswer : ℕ → Rules → ℕ → ℕ → ℕ → List ℕ → Type 0
IsSummaryAnswer n r splits tolerance status text =
    IsNoDriveAnswer r status text
    ⊎ (IsSomeLateAnswer r status text
    ⊎ ((p : PlanData) × IsSummary n r splits tolerance status text p))

-- the answer to sample n, with so many splits, at this tolerance, where so many steps were counted: as many as its rules have. Its rules are
-- those of a grid of steps of 100 m
pub record IsSampleAnswer (n splits tolerance counted status : ℕ) (text : List ℕ) : Type 0 where
  pub rules : Rules
  pub of_sample : IsSampleRules n 100 rules
  pub counted_is : counted ≡ length rules.steps
  pub answers : IsSummaryAnswer n rules splits tolerance status text
