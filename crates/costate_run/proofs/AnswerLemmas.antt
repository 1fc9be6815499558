-- The answers to the rules of a run.
use Rattle.std.proofs.Common.{ℕ, ◌≡◌, ◌+◌, ◌-◌, ◌++◌, ◌∙◌, List, Option, subst, ap, length, refl, arith}
use Rattle.std.specs.Prelude.{ℤ, Bool, IsTrue, ◌↔◌, if◌then◌else◌, Result, Ok, Err, IfOk}
use Rattle.rail_specs.specs.Rules.{Rules}
use Rattle.rail_specs.specs.Cost.{GapMet}
use Rattle.dual_certificate.specs.declared.part.Title.TheVariants as title
use Rattle.dual_certificate.specs.Part.{IsPassed, titled_part}
use Rattle.drive_report.specs.Report.{advice_text}
use Rattle.costate_text.specs.declared.certificate.CostateCertificate.{CostateCertificate}
use Rattle.costate_text.specs.Grammar.{certificate_of}
use Rattle.costate_text.specs.Text.{text_of}
use Rattle.costate_text.proofs.TextLaws.{is_again}
use Rattle.line_file.specs.declared.line.Line.{Line}
use Rattle.line_file.specs.declared.service.Service.{Service}
use Rattle.train_file.specs.declared.train.Train.{Train}
use Rattle.costate_run.specs.Plan.{IsCertificateFor, IsPlanAnswer, IsReported, figures_of}
use Rattle.costate_run.specs.Outcome.{IsJoinedAnswer, IsJoinedCheck, IsRulesAnswer}

-- a certificate's text is its own part
part_of_text : (c : CostateCertificate) → titled_part title.Costate (text_of c) ≡ text_of c
unfolding text_of
part_of_text c = refl

-- a certificate, with its report
pub drive_answer : (cost : ℤ → ℤ) (share : ℕ) (r : Rules) (tolerance : ℕ) (regeneration : Option ℕ) (status : ℕ) (text advice : List ℕ) (c : CostateCertificate) (met : Bool)
    → IsCertificateFor cost share r c → (IsTrue met ↔ GapMet c.energy c.bound tolerance) → status ≡ (if met then 0 else 1)
    → advice ≡ advice_text r c.speeds (figures_of c met regeneration) → IsPassed advice → text ≡ advice ++ text_of c
    → IsReported cost share r tolerance regeneration status text
drive_answer cost share r tolerance regeneration status text advice c met is gap ends front passed says = (
  c,
  (
    met,
    record {
      certificate = is;
      gap = gap;
      ends = ends;
      says = says ∙ ap (λ (x : List ℕ). x ++ text_of c) front;
      reads = ap certificate_of (ap (titled_part title.Costate) says ∙ passed title.Costate (text_of c) ∙ part_of_text c) ∙ is_again c is.in_range;
    },
  ),
)

-- what holds of an answer where there is one
pub ok_map : {A E : Type 0} (r : Result A E) (P Q : A → Type 0) → ((a : A) → P a → Q a) → IfOk r P → IfOk r Q
ok_map (Ok a) P Q f h = f a h
ok_map (Err e) P Q f h = tt

-- ---- answers over files

-- the answer to rules, where the files counted their steps
pub rules_answered : (cost : ℤ → ℤ) (share tolerance : ℕ) (regeneration : Option ℕ) (old new : ℕ) (r : Rules) (status : ℕ) (text : List ℕ)
    → new ≡ old + (length r.steps + 0) → IsPlanAnswer cost share r tolerance regeneration status text
    → IsRulesAnswer cost share tolerance regeneration (new - old) r status text
rules_answered cost share tolerance regeneration old new r status text e h = (omega arith, h)

-- the answer to joined rules, where the files counted no step
pub joined_answered : (line : Line) (train : Train) (service : Service) (step tolerance old mid new status : ℕ) (text : List ℕ)
    → mid ≡ old + (0 + (0 + (0 + 0)))
    → IsJoinedAnswer line train service step tolerance (new - mid) status text
    → IsJoinedAnswer line train service step tolerance (new - old) status text
joined_answered line train service step tolerance old mid new status text e h =
    let same : mid ≡ old = omega arith in
    subst (λ (m : ℕ). IsJoinedAnswer line train service step tolerance (new - m) status text) same h

-- the check against joined rules, where the files counted no step
pub joined_checked : (line : Line) (train : Train) (service : Service) (report : List ℕ) (step old mid new status : ℕ) (text : List ℕ)
    → mid ≡ old + (0 + (0 + (0 + (0 + 0))))
    → IsJoinedCheck line train service report step (new - mid) status text
    → IsJoinedCheck line train service report step (new - old) status text
joined_checked line train service report step old mid new status text e h =
    let same : mid ≡ old = omega arith in
    subst (λ (m : ℕ). IsJoinedCheck line train service report step (new - m) status text) same h
