-- What a report claims of a run, and why a claim is refused: for the same reasons as a check refuses it before it looks at the bound, and in the
-- same words.
use Rattle.std.specs.Prelude.{ℕ, ◌≡◌, ◌≤◌, ◌^◌, ◌+◌, ◌==◌, Bool, true, false, ℤ, List, Option, Some, None, Result, Ok, Err, codes, if◌then◌else◌, length, nat_lt, Vec}
use Rattle.std.specs.Int.RustNames.{unsigned_abs}
use Rattle.std.specs.Option.{option_map, option_or}
use Rattle.std.specs.declared.alloc.Global.{Global}
use Rattle.std.specs.Ordering.{int_eq}
use Rattle.rail_specs.specs.Rules.{Rules, IsDrive}
use Rattle.rail_specs.specs.Times.{IsOnTimeUp}
use Rattle.rail_specs.specs.Cost.{cost_of}
use Rattle.drive_rules.specs.Verdict.{verdict}
use Rattle.dual_certificate.specs.declared.certificate.Certificate.{Certificate}
use Rattle.dual_certificate.specs.declared.fault.CertFault.{CertFault}
use Rattle.dual_certificate.specs.declared.part.Title.{Title}
use Rattle.dual_certificate.specs.declared.part.Title.TheVariants as title
use Rattle.dual_certificate.specs.Contents.{speeds_of}
use Rattle.dual_certificate.specs.Grammar.{certificate_in}
use Rattle.dual_certificate.specs.Part.{titled_part}
use Rattle.costate_text.specs.declared.certificate.CostateCertificate.{CostateCertificate}
use Rattle.costate_text.specs.Grammar.{certificate_of}
use Rattle.run_parts.specs.CertificateTexts.{rule_words}
use Rattle.sheet_run.specs.declared.claims.Claim.{Claim}

-- what a certificate by cells claims
abbrev pub claim_by_cells : Certificate → Claim
claim_by_cells c = record { energy = c.energy; bound = c.bound; prices = length c.prices; speeds = speeds_of c }

-- what a certificate by costates claims
abbrev pub claim_by_costates : CostateCertificate → Claim
claim_by_costates c = record { energy = c.energy; bound = c.bound; prices = length c.prices; speeds = c.speeds }

-- what is claimed where a certificate is read
abbrev pub claimed : {A : Type 0} → (A → Claim) → Result A CertFault → Result Claim CertFault
claimed view (Ok c) = Ok (view c)
claimed view (Err e) = Err e

-- a report has a part under a title
abbrev pub has_part : Title → List ℕ → Bool
has_part t report = nat_lt 0 (length (titled_part t report))

-- what a report claims: what its certificate part does, or, where it has none, its costate part; or the first fault of that part
abbrev pub claim_in : List ℕ → Result Claim CertFault
claim_in report =
    if has_part title.Certificate report then claimed claim_by_cells (certificate_in (titled_part title.Certificate report))
    else claimed claim_by_costates (certificate_of (titled_part title.Costate report))

-- both energies of a claim are in the range of certificates
pub record IsSmall (c : Claim) : Type 0 where
  pub energy : unsigned_abs c.energy ≤ 2 ^ 100
  pub bound : unsigned_abs c.bound ≤ 2 ^ 100

-- words, where a test fails
abbrev pub unless_so : Bool → List ℕ → Option (List ℕ)
unless_so true words = None
unless_so false words = Some words

-- the words of the first condition on the drive that a claim fails: it is kept and on time, and costs what is claimed
abbrev pub drive_refusal : (ℤ → ℤ) → Rules → Claim → Option (List ℕ)
drive_refusal cost r c =
    option_or (option_map (λ broken. rule_words broken.0 broken.1) (verdict r c.speeds))
    (unless_so (int_eq c.energy (cost_of cost r c.speeds)) (codes "number energy"))

-- the words of the first condition that a claim fails: the counts of points and of prices, the drive, its energy
abbrev pub claim_refusal : (ℤ → ℤ) → Rules → Claim → Option (List ℕ)
claim_refusal cost r c =
    option_or (unless_so (length c.speeds == length r.steps + 1) (codes "number points"))
    (option_or (unless_so (c.prices == length r.timings) (codes "number prices")) (drive_refusal cost r c))

-- what a claim that isn't refused is: a drive that is kept and on time, with what it costs
pub record IsKeptClaim (cost : ℤ → ℤ) (r : Rules) (c : Claim) : Type 0 where
  pub drive : IsDrive r c.speeds
  pub on_time : IsOnTimeUp r c.speeds
  pub energy : c.energy ≡ cost_of cost r c.speeds

-- an answer is these words, or none where there are none
abbrev pub Refuses : Option (Vec ℕ Global) → Option (List ℕ) → Type 0
Refuses refused words = option_map (λ v. v.items) refused ≡ words
