-- What is shown of a drive that is kept.
use Rattle.std.specs.Prelude.{ℕ, ◌≡◌, ◌≢◌, ◌⊎◌, ℤ, List, None, Some, Ok, Err, count_by, length, map, min, nat_lt}
use Rattle.rail_specs.specs.Rules.{Rules}
use Rattle.line_file.specs.declared.calls.Call.{Call}
use Rattle.dual_certificate.specs.declared.fault.CertFault.{CertFault}
use Rattle.dual_certificate.specs.declared.fault.CertFault.TheVariants.{NoMemory}
use Rattle.run_parts.specs.CertificateTexts.{fault_words}
use Rattle.run_parts.specs.Reports.{IsRefusedIn}
use Rattle.run_sheet.specs.Timetable.{timetable_text}
use Rattle.run_sheet.specs.Points.{points_text}
use Rattle.run_picture.specs.Picture.{picture_text}
use Rattle.sheet_run.specs.declared.claims.Claim.{Claim}
use Rattle.sheet_run.specs.declared.command_line.Form.{Form}
use Rattle.sheet_run.specs.declared.command_line.Form.TheVariants as form
use Rattle.sheet_run.specs.declared.named_service.NamedService.{NamedService}
use Rattle.sheet_run.specs.Claims.{IsKeptClaim, claim_in, claim_refusal}

-- the point at a place: as many as there are points before the place, and no further than the last
abbrev pub point_of : Rules → ℕ → ℕ
point_of r place = min (count_by (λ p. nat_lt p place) r.places) (length r.steps)

-- the points of calls, in their order
abbrev pub points_of : Rules → List Call → List ℕ
points_of r calls = map (λ c. point_of r c.place) calls

-- the text of a drive in a form, where work costs this, for the calls of a service, with the energy and the bound that are claimed
abbrev pub shown_text : Form → (ℤ → ℤ) → Rules → NamedService → Claim → List ℕ
shown_text form.Timetable cost r s c = timetable_text r c.speeds (points_of r s.service.calls) s.names c.energy c.bound
shown_text form.Points cost r s c = points_text cost r c.speeds
shown_text form.Svg cost r s c = picture_text r c.speeds (points_of r s.service.calls) s.names c.energy

-- the drive that a report claims is kept and on time, and costs what is claimed: status 0, and the drive is shown
pub record IsShown (cost : ℤ → ℤ) (r : Rules) (shown : Form) (s : NamedService) (c : Claim) (status : ℕ) (text : List ℕ) : Type 0 where
  pub none : claim_refusal cost r c ≡ None
  pub kept : IsKeptClaim cost r c
  pub ends : status ≡ 0
  pub says : text ≡ shown_text shown cost r s c

-- a condition fails, and nothing of the drive is shown: status 9, with the words of the first that does
pub record IsNotShown (cost : ℤ → ℤ) (r : Rules) (c : Claim) (words : List ℕ) (status : ℕ) (text : List ℕ) : Type 0 where
  pub fails : claim_refusal cost r c ≡ Some words
  pub says : IsRefusedIn words status text

-- the part of a report that has its drive isn't of its form, and this is its first fault: status 9, with the fault's words
pub record IsNoClaim (report : List ℕ) (e : CertFault) (status : ℕ) (text : List ℕ) : Type 0 where
  pub sound : e ≢ NoMemory
  pub refused : claim_in report ≡ Err e
  pub says : IsRefusedIn (fault_words e) status text

-- the answer to what is claimed of a run
abbrev pub IsClaimAnswer : (ℤ → ℤ) → Rules → Form → NamedService → Claim → ℕ → List ℕ → Type 0
IsClaimAnswer cost r shown s c status text =
    IsShown cost r shown s c status text ⊎ ((words : List ℕ) × IsNotShown cost r c words status text)

-- the answer to a report
abbrev pub IsReportAnswer : (ℤ → ℤ) → Rules → Form → NamedService → List ℕ → ℕ → List ℕ → Type 0
IsReportAnswer cost r shown s report status text =
    ((c : Claim) × ((claim_in report ≡ Ok c) × IsClaimAnswer cost r shown s c status text))
    ⊎ ((e : CertFault) × IsNoClaim report e status text)
