-- The answer to a plan: which text and which status the rules of a run allow.
use Rattle.std.specs.Prelude.{ℕ, ◌≡◌, ◌++◌, ◌⊎◌, ◌↔◌, ◌≤ℤ◌, ℤ, Bool, IsTrue, List, Option, None, Ok, if◌then◌else◌}
use Rattle.rail_specs.specs.Rules.{Rules}
use Rattle.rail_specs.specs.Ranges.{AreRanges, no_narrowing}
use Rattle.rail_specs.specs.Cost.{GapMet}
use Rattle.phase_composer.specs.Best.{IsBestOfFamily}
use Rattle.dual_certificate.specs.declared.part.Title.TheVariants as title
use Rattle.dual_certificate.specs.Part.{titled_part}
use Rattle.drive_report.specs.declared.figures.Figures.{Figures}
use Rattle.drive_report.specs.Report.{advice_text}
use Rattle.costate_text.specs.declared.certificate.CostateCertificate.{CostateCertificate}
use Rattle.costate_text.specs.Grammar.{certificate_of}
use Rattle.costate_text.specs.Text.{IsCostateCertificate, text_of}
use Rattle.costate_checker.specs.Holds.{Holds, Shows}
use Rattle.run_parts.specs.Runs.{IsNoDriveAnswer, IsSomeLateAnswer}
use Rattle.costate_run.specs.Offers.{free_bound}

-- a certificate of a run: its drive is on time and costs at most each member of the family that is, it holds, so that no drive on time costs
-- less than its bound, and its bound is no less than that of prices of nothing
pub record IsCertificateFor (cost : ℤ → ℤ) (share : ℕ) (r : Rules) (c : CostateCertificate) : Type 0 where
  pub in_range : IsCostateCertificate c
  pub best : IsBestOfFamily cost r c.speeds
  pub holds : Holds cost share r c
  pub shows : Shows cost r c
  pub free : (least greatest : List ℕ) → AreRanges r no_narrowing least greatest → free_bound r share c.speeds least greatest ≤ℤ c.bound

-- what the advice part of its report says
abbrev pub figures_of : CostateCertificate → Bool → Option ℕ → Figures
figures_of c met regeneration = record { energy = c.energy; bound = c.bound; met = met; counts = None; regeneration = regeneration }

-- a plan: the text is the advice part and the certificate, which whoever checks the text reads; the gap is met exactly where energy and bound
-- differ by at most the tolerance, and the status is 0 then and else 1
pub record IsDriveAnswer (cost : ℤ → ℤ) (share : ℕ) (r : Rules) (tolerance : ℕ) (regeneration : Option ℕ) (status : ℕ) (text : List ℕ) (c : CostateCertificate) (met : Bool) : Type 0 where
  pub certificate : IsCertificateFor cost share r c
  pub gap : IsTrue met ↔ GapMet c.energy c.bound tolerance
  pub ends : status ≡ (if met then 0 else 1)
  pub says : text ≡ advice_text r c.speeds (figures_of c met regeneration) ++ text_of c
  pub reads : certificate_of (titled_part title.Costate text) ≡ Ok c

-- the same, with some certificate
abbrev pub IsReported : (ℤ → ℤ) → ℕ → Rules → ℕ → Option ℕ → ℕ → List ℕ → Type 0
IsReported cost share r tolerance regeneration status text =
    (c : CostateCertificate) × ((met : Bool) × IsDriveAnswer cost share r tolerance regeneration status text c met)

-- the text and the status are an answer for the rules at this cost of work, where this share of braking work comes back, in per mille, and at
-- this tolerance in per mille; for a train whose file says so with the share that its brakes give back
abbrev pub IsPlanAnswer : (ℤ → ℤ) → ℕ → Rules → ℕ → Option ℕ → ℕ → List ℕ → Type 0
IsPlanAnswer cost share r tolerance regeneration status text =
    IsNoDriveAnswer r status text ⊎ (IsSomeLateAnswer r status text ⊎ IsReported cost share r tolerance regeneration status text)
