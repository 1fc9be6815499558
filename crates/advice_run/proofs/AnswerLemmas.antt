-- The answers to the rules of a run.
use Rattle.std.proofs.Common.{ℕ, ◌≡◌, ◌≤◌, ◌+◌, ◌-◌, ◌∙◌, List, Option, subst, ap, length, refl, arith, inl, inr}
use Rattle.std.specs.Prelude.{ℤ, if◌then◌else◌, Result, Ok, Err, IfOk, All}
use Rattle.rail_specs.specs.Rules.{Rules}
use Rattle.rule_parts.specs.Shaped.{IsShaped}
use Rattle.bound_specs.specs.Prices.{ArePrices}
use Rattle.dual_certificate.specs.declared.certificate.Certificate.{Certificate}
use Rattle.dual_certificate.specs.Grammar.{certificate_in}
use Rattle.dual_certificate.specs.Part.{certificate_part}
use Rattle.dual_certificate.specs.Text.{IsPoint, text_of}
use Rattle.dual_certificate.proofs.WholeLaws.{is_again}
use Rattle.planner.specs.Certificates.{IsCertificateOf}
use Rattle.phase_composer.specs.Best.{IsLate}
use Rattle.planner.specs.Plans.{IsSomePlan}
use Rattle.planner.specs.declared.answer.Plan.{Plan as PlanData}
use Rattle.drive_report.specs.Report.{late_text, report_text}
use Rattle.line_file.specs.declared.line.Line.{Line}
use Rattle.line_file.specs.declared.service.Service.{Service}
use Rattle.train_file.specs.declared.train.Train.{Train}
use Rattle.advice_run.specs.Plan.{IsPlanAnswer, IsReported}
use Rattle.advice_run.specs.Outcome.{IsJoinedAnswer, IsJoinedCheck, IsRulesAnswer}
use Rattle.advice_run.proofs.CertificateLemmas.{holds, in_range}

-- a plan, with its certificate
pub drive_answer : (cost : ℤ → ℤ) (r : Rules) (splits tolerance : ℕ) (regeneration : Option ℕ) (status : ℕ) (text : List ℕ) (p : PlanData) (c : Certificate) → splits ≤ 50000 → IsShaped r → ArePrices p.prices
    → IsSomePlan cost r splits tolerance p → IsCertificateOf p c → All IsPoint c.points → status ≡ (if p.met then 0 else 1) → text ≡ report_text r c p.met p.splits regeneration
    → certificate_part text ≡ text_of c → IsReported cost r splits tolerance regeneration status text p
drive_answer cost r splits tolerance regeneration status text p c few shaped prices is said fit ends says part =
    let sound = in_range cost r splits tolerance p c few shaped prices is said fit in (
      c,
      record {
        plan = is;
        certificate = said;
        in_range = sound;
        holds = holds cost r splits tolerance p c shaped prices is said;
        ends = ends;
        says = says;
        reads = ap certificate_in part ∙ is_again c sound;
      },
    )

-- what holds of an answer where there is one
pub ok_map : {A E : Type 0} (r : Result A E) (P Q : A → Type 0) → ((a : A) → P a → Q a) → IfOk r P → IfOk r Q
ok_map (Ok a) P Q f h = f a h
ok_map (Err e) P Q f h = tt

-- ---- answers over files

-- the answer to rules, where the files counted their steps
pub rules_answered : (cost : ℤ → ℤ) (splits tolerance : ℕ) (regeneration : Option ℕ) (old new : ℕ) (r : Rules) (status : ℕ) (text : List ℕ)
    → new ≡ old + (length r.steps + 0) → IsPlanAnswer cost r splits tolerance regeneration status text
    → IsRulesAnswer cost splits tolerance regeneration (new - old) r status text
rules_answered cost splits tolerance regeneration old new r status text e h = (omega arith, h)

-- the answer to joined rules, where the files counted no step
pub joined_answered : (line : Line) (train : Train) (service : Service) (step splits tolerance old mid new status : ℕ) (text : List ℕ)
    → mid ≡ old + (0 + (0 + (0 + 0)))
    → IsJoinedAnswer line train service step splits tolerance (new - mid) status text
    → IsJoinedAnswer line train service step splits tolerance (new - old) status text
joined_answered line train service step splits tolerance old mid new status text e h =
    let same : mid ≡ old = omega arith in
    subst (λ (m : ℕ). IsJoinedAnswer line train service step splits tolerance (new - m) status text) same h

-- the check against joined rules, where the files counted no step
pub joined_checked : (line : Line) (train : Train) (service : Service) (report : List ℕ) (step old mid new status : ℕ) (text : List ℕ)
    → mid ≡ old + (0 + (0 + (0 + (0 + 0))))
    → IsJoinedCheck line train service report step (new - mid) status text
    → IsJoinedCheck line train service report step (new - old) status text
joined_checked line train service report step old mid new status text e h =
    let same : mid ≡ old = omega arith in
    subst (λ (m : ℕ). IsJoinedCheck line train service report step (new - m) status text) same h
