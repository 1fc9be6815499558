-- The words that say what came of a certificate.
use Rattle.std.specs.Prelude.{ℕ, ◌++◌, List, [], pos, codes}
use Rattle.rail_base.specs.Texts.{spaced}
use Rattle.run_parts.specs.CertificateTexts.{rule_words}
use Rattle.certificate_checker.specs.declared.refused.Field.{Field}
use Rattle.certificate_checker.specs.declared.refused.Field.TheVariants as field
use Rattle.certificate_checker.specs.declared.refused.Refused.{Refused}
use Rattle.certificate_checker.specs.declared.refused.Refused.TheVariants as refused

-- the name of a number of a certificate
abbrev pub field_name : Field → List ℕ
field_name field.Points = codes "points"
field_name field.Prices = codes "prices"
field_name field.Energy = codes "energy"
field_name field.Bound = codes "bound"

-- the words of the condition that a certificate fails
abbrev pub refused_words : Refused → List ℕ
refused_words (refused.Number f) = codes "number " ++ field_name f
refused_words (refused.Drive broken place) = rule_words broken place
refused_words (refused.Cells k) = codes "cells" ++ spaced (pos k)
refused_words (refused.Potential k a b) = ((codes "potential" ++ spaced (pos k)) ++ spaced (pos a)) ++ spaced (pos b)
refused_words refused.NoMemory = []
