-- The answer to the check of a report.
use Rattle.std.specs.Prelude.{ℕ, ◌≡◌, ◌≢◌, ℤ, List, [], ⊤, None, Some, IfSome, Ok, Err, codes, ◌⊎◌}
use Rattle.rail_specs.specs.Rules.{Rules}
use Rattle.rail_specs.specs.Ranges.{AreRanges, no_narrowing}
use Rattle.dual_certificate.specs.declared.fault.CertFault.{CertFault}
use Rattle.dual_certificate.specs.declared.fault.CertFault.TheVariants.{NoMemory as NoMemoryToRead}
use Rattle.dual_certificate.specs.declared.part.Title.TheVariants as title
use Rattle.dual_certificate.specs.Part.{titled_part}
use Rattle.run_parts.specs.CertificateTexts.{certified_text, fault_words, rule_words}
use Rattle.costate_bound.specs.Relaxation.{costate_bound}
use Rattle.costate_text.specs.declared.certificate.CostateCertificate.{CostateCertificate}
use Rattle.costate_text.specs.Grammar.{certificate_of}
use Rattle.costate_checker.specs.declared.refused.Field.TheVariants as field
use Rattle.costate_checker.specs.declared.refused.Refused.{Refused}
use Rattle.costate_checker.specs.declared.refused.Refused.TheVariants as refused
use Rattle.costate_checker.specs.Holds.{Holds, Shows, relaxation_in}
use Rattle.costate_checker.specs.Refusals.{Refuses, bound_refusal, early_refusal}
use Rattle.run_parts.specs.Reports.{IsRefusedIn}

-- the words of the condition that a certificate fails
abbrev pub refused_words : Refused → List ℕ
refused_words (refused.Number field.Points) = codes "number points"
refused_words (refused.Number field.Prices) = codes "number prices"
refused_words (refused.Number field.Energy) = codes "number energy"
refused_words (refused.Number field.Bound) = codes "number bound"
refused_words (refused.Drive broken place) = rule_words broken place
refused_words refused.NoMemory = []

-- a certificate holds for the rules at this cost of work, so that its energy is that of a drive on time and no drive on time costs less than
-- its bound, whoever wrote it: status 0, with energy and bound
pub record IsCertified (cost : ℤ → ℤ) (share : ℕ) (r : Rules) (c : CostateCertificate) (status : ℕ) (text : List ℕ) : Type 0 where
  pub holds : Holds cost share r c
  pub shows : Shows cost r c
  pub ends : status ≡ 0
  pub says : text ≡ certified_text c.energy c.bound

-- a certificate doesn't hold, and this condition is the first that fails: status 9, with the condition's words
pub record IsNotHeld (cost : ℤ → ℤ) (share : ℕ) (r : Rules) (c : CostateCertificate) (e : Refused) (status : ℕ) (text : List ℕ) : Type 0 where
  pub sound : e ≢ refused.NoMemory
  pub fails : Holds cost share r c → ⊥
  pub early : IfSome (early_refusal cost r c) (λ first. Refuses {A = ⊤} (Err e) (Some first))
  pub late : early_refusal cost r c ≡ None → (least greatest : List ℕ) → AreRanges r no_narrowing least greatest
      → Refuses {A = ⊤} (Err e) (bound_refusal c (costate_bound (relaxation_in r share c) least greatest))
  pub says : IsRefusedIn (refused_words e) status text

-- the answer to a certificate
abbrev pub IsCertificateAnswer : (ℤ → ℤ) → ℕ → Rules → CostateCertificate → ℕ → List ℕ → Type 0
IsCertificateAnswer cost share r c status text = IsCertified cost share r c status text ⊎ ((e : Refused) × IsNotHeld cost share r c e status text)

-- the costate part of a report isn't of its form, and this is its first fault: status 9, with the fault's words
pub record IsNoCertificate (report : List ℕ) (e : CertFault) (status : ℕ) (text : List ℕ) : Type 0 where
  pub sound : e ≢ NoMemoryToRead
  pub refused : certificate_of (titled_part title.Costate report) ≡ Err e
  pub says : IsRefusedIn (fault_words e) status text

-- the answer to a report: that to the certificate that its costate part is, or the part's first fault
abbrev pub IsReportAnswer : (ℤ → ℤ) → ℕ → Rules → List ℕ → ℕ → List ℕ → Type 0
IsReportAnswer cost share r report status text =
    ((c : CostateCertificate) × ((certificate_of (titled_part title.Costate report) ≡ Ok c) × IsCertificateAnswer cost share r c status text))
    ⊎ ((e : CertFault) × IsNoCertificate report e status text)
