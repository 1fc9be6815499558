-- Which condition of a costate certificate fails first.
use Rattle.std.specs.Prelude.{◌≡◌, ◌+◌, ◌==◌, Bool, true, false, ℤ, Option, Some, None, Result, Ok, Err, option_map, length}
use Rattle.std.specs.Option.{option_or}
use Rattle.std.specs.Ordering.{int_eq}
use Rattle.rail_specs.specs.Rules.{Rules}
use Rattle.rail_specs.specs.Cost.{cost_of}
use Rattle.drive_rules.specs.Verdict.{verdict}
use Rattle.costate_text.specs.declared.certificate.CostateCertificate.{CostateCertificate}
use Rattle.costate_checker.specs.declared.refused.Field.TheVariants as field
use Rattle.costate_checker.specs.declared.refused.Refused.{Refused}
use Rattle.costate_checker.specs.declared.refused.Refused.TheVariants.{Number, Drive, NoMemory}

-- a test, and what is refused where it fails
abbrev pub unless_so : Bool → Refused → Option Refused
unless_so true refused = None
unless_so false refused = Some refused

-- the conditions that come before the bound, in their order: counts, the drive, its energy
abbrev pub counts_refusal : Rules → CostateCertificate → Option Refused
counts_refusal r c =
    option_or (unless_so (length c.speeds == length r.steps + 1) (Number field.Points)) (unless_so (length c.prices == length r.timings) (Number field.Prices))

abbrev pub drive_refusal : (ℤ → ℤ) → Rules → CostateCertificate → Option Refused
drive_refusal cost r c =
    option_or (option_map (λ broken. Drive broken.0 broken.1) (verdict r c.speeds)) (unless_so (int_eq c.energy (cost_of cost r c.speeds)) (Number field.Energy))

abbrev pub early_refusal : (ℤ → ℤ) → Rules → CostateCertificate → Option Refused
early_refusal cost r c = option_or (counts_refusal r c) (drive_refusal cost r c)

-- the bound isn't this number
abbrev pub bound_refusal : CostateCertificate → ℤ → Option Refused
bound_refusal c bound = unless_so (int_eq c.bound bound) (Number field.Bound)

-- an answer is this refusal, or none where there is none; memory may run out
abbrev pub Refuses : {A : Type 0} → Result A Refused → Option Refused → Type 0
Refuses (Ok x) first = first ≡ None
Refuses (Err NoMemory) first = Unit {0}
Refuses (Err e) first = first ≡ Some e
