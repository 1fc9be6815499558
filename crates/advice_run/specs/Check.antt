-- The answer to the check of a report.
use Rattle.std.specs.Prelude.{ℕ, ◌≡◌, ◌≢◌, ℤ, List, ⊤, None, Some, IfSome, Ok, Err, ◌⊎◌}
use Rattle.rail_specs.specs.Rules.{Rules}
use Rattle.rail_specs.specs.Ranges.{AreRanges, no_narrowing}
use Rattle.dual_certificate.specs.declared.certificate.Certificate.{Certificate}
use Rattle.dual_certificate.specs.declared.fault.CertFault.{CertFault}
use Rattle.dual_certificate.specs.declared.fault.CertFault.TheVariants.{NoMemory as NoMemoryToRead}
use Rattle.dual_certificate.specs.Grammar.{certificate_in}
use Rattle.dual_certificate.specs.Part.{certificate_part}
use Rattle.certificate_checker.specs.declared.refused.Refused.{Refused}
use Rattle.certificate_checker.specs.declared.refused.Refused.TheVariants.{NoMemory as NoMemoryToCheck}
use Rattle.certificate_checker.specs.Holds.{Holds, Shows}
use Rattle.certificate_checker.specs.Refusals.{Refuses, early_refusal, late_refusal}
use Rattle.certificate_words.specs.Words.{refused_words}
use Rattle.run_parts.specs.CertificateTexts.{certified_text, fault_words}
use Rattle.run_parts.specs.Reports.{IsRefusedIn}

-- a certificate holds for the rules at this cost of work, so that its energy is that of a drive on time and no drive on time costs less than
-- its bound, whoever wrote it: status 0, with energy and bound
pub record IsCertified (cost : ℤ → ℤ) (r : Rules) (c : Certificate) (status : ℕ) (text : List ℕ) : Type 0 where
  pub holds : Holds cost r c
  pub shows : Shows cost r c
  pub ends : status ≡ 0
  pub says : text ≡ certified_text c.energy c.bound

-- a certificate doesn't hold, and this condition is the first that fails: status 9, with the condition's words
pub record IsNotHeld (cost : ℤ → ℤ) (r : Rules) (c : Certificate) (e : Refused) (status : ℕ) (text : List ℕ) : Type 0 where
  pub sound : e ≢ NoMemoryToCheck
  pub fails : Holds cost r c → ⊥
  pub early : IfSome (early_refusal cost r c) (λ first. Refuses {A = ⊤} (Err e) (Some first))
  pub late : early_refusal cost r c ≡ None → (least greatest : List ℕ) → AreRanges r no_narrowing least greatest
      → Refuses {A = ⊤} (Err e) (late_refusal cost r c least greatest)
  pub says : IsRefusedIn (refused_words e) status text

-- the answer to a certificate
abbrev pub IsCertificateAnswer : (ℤ → ℤ) → Rules → Certificate → ℕ → List ℕ → Type 0
IsCertificateAnswer cost r c status text = IsCertified cost r c status text ⊎ ((e : Refused) × IsNotHeld cost r c e status text)

-- the certificate part of a report isn't of its form, and this is its first fault: status 9, with the fault's words
pub record IsNoCertificate (report : List ℕ) (e : CertFault) (status : ℕ) (text : List ℕ) : Type 0 where
  pub sound : e ≢ NoMemoryToRead
  pub refused : certificate_in (certificate_part report) ≡ Err e
  pub says : IsRefusedIn (fault_words e) status text

-- the answer to a report: that to the certificate that its certificate part is, or the part's first fault
abbrev pub IsReportAnswer : (ℤ → ℤ) → Rules → List ℕ → ℕ → List ℕ → Type 0
IsReportAnswer cost r report status text =
    ((c : Certificate) × ((certificate_in (certificate_part report) ≡ Ok c) × IsCertificateAnswer cost r c status text))
    ⊎ ((e : CertFault) × IsNoCertificate report e status text)
