-- The words that say what came of a certificate.
use Rattle.std.specs.Prelude.{ℕ, ◌++◌, List, [], ℤ, pos, codes}
use Rattle.rail_base.specs.Texts.{line, spaced}
use Rattle.drive_rules.specs.declared.judge.Rule.{Rule}
use Rattle.drive_rules.specs.declared.judge.Rule.TheVariants as rule
use Rattle.dual_certificate.specs.declared.fault.CertFault.{CertFault}
use Rattle.dual_certificate.specs.declared.fault.CertFault.TheVariants as fault

-- the name of a rule of a drive
abbrev pub rule_name : Rule → List ℕ
rule_name rule.Length = codes "length"
rule_name rule.Start = codes "start"
rule_name rule.Stop = codes "stop"
rule_name rule.Standing = codes "standing"
rule_name rule.Limit = codes "limit"
rule_name rule.Top = codes "top"
rule_name rule.Traction = codes "traction"
rule_name rule.Brake = codes "brake"
rule_name rule.Late = codes "late"

-- the words of a broken rule and where it is broken
abbrev pub rule_words : Rule → ℕ → List ℕ
rule_words broken place = codes "drive " ++ (rule_name broken ++ spaced (pos place))

-- the words of a fault of a certificate's text
abbrev pub fault_words : CertFault → List ℕ
fault_words fault.TooLong = codes "too-long"
fault_words (fault.Form n) = codes "form" ++ spaced (pos n)
fault_words (fault.Range n) = codes "range" ++ spaced (pos n)
fault_words fault.NoMemory = []

-- the line of a certificate that holds: its energy and its bound, in 0.5 microjoule
abbrev pub certified_text : ℤ → ℤ → List ℕ
certified_text energy bound = line (((codes "certified energy" ++ spaced energy) ++ codes " bound") ++ spaced bound)
