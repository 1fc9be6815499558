-- The answer to a plan: which text and which status the rules of a run allow.
use Rattle.std.specs.Prelude.{ℕ, ◌≡◌, ℤ, List, Option, Ok, ◌⊎◌, if◌then◌else◌}
use Rattle.rail_specs.specs.Rules.{Rules}
use Rattle.run_parts.specs.Runs.{IsNoDriveAnswer, IsSomeLateAnswer}
use Rattle.certificate_checker.specs.Holds.{Holds}
use Rattle.dual_certificate.specs.declared.certificate.Certificate.{Certificate}
use Rattle.dual_certificate.specs.Grammar.{certificate_in}
use Rattle.dual_certificate.specs.Part.{certificate_part}
use Rattle.dual_certificate.specs.Text.{IsCertificate}
use Rattle.planner.specs.Certificates.{IsCertificateOf}
use Rattle.planner.specs.Plans.{IsSomePlan}
use Rattle.planner.specs.declared.answer.Plan.{Plan as PlanData}
use Rattle.drive_report.specs.Report.{report_text}

-- a plan: the text is the report of its certificate, which holds, and which whoever checks the text reads; status 0 where the gap is met, 1
-- where it is open
pub record IsDriveAnswer (cost : ℤ → ℤ) (r : Rules) (splits tolerance : ℕ) (regeneration : Option ℕ) (status : ℕ) (text : List ℕ) (p : PlanData) (c : Certificate) : Type 0 where
  pub plan : IsSomePlan cost r splits tolerance p
  pub certificate : IsCertificateOf p c
  pub in_range : IsCertificate c
  pub holds : Holds cost r c
  pub ends : status ≡ (if p.met then 0 else 1)
  pub says : text ≡ report_text r c p.met p.splits regeneration
  pub reads : certificate_in (certificate_part text) ≡ Ok c

-- the same, with some certificate
abbrev pub IsReported : (ℤ → ℤ) → Rules → ℕ → ℕ → Option ℕ → ℕ → List ℕ → PlanData → Type 0
IsReported cost r splits tolerance regeneration status text p =
    (c : Certificate) × IsDriveAnswer cost r splits tolerance regeneration status text p c

-- the text and the status are an answer for the rules at this cost of work, where so many splits are allowed, and at this tolerance in per
-- mille; for a train whose file says so with the share that its brakes give back, in per mille
abbrev pub IsPlanAnswer : (ℤ → ℤ) → Rules → ℕ → ℕ → Option ℕ → ℕ → List ℕ → Type 0
IsPlanAnswer cost r splits tolerance regeneration status text =
    IsNoDriveAnswer r status text
    ⊎ (IsSomeLateAnswer r status text
    ⊎ ((p : PlanData) × IsReported cost r splits tolerance regeneration status text p))
