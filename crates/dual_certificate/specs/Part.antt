-- Where a report has its certificate.
use Rattle.std.specs.Prelude.{ℕ, ◌==◌, ◌&&◌, ◌≡◌, Bool, true, List, [], ◌∷◌, ◌++◌, codes, if◌then◌else◌}
use Rattle.rail_base.specs.Lines.{begins}
use Rattle.rail_base.specs.Texts.{line}
use Rattle.dual_certificate.specs.declared.part.Title.{Title}
use Rattle.dual_certificate.specs.declared.part.Title.TheVariants as title

-- the first line of a certificate
abbrev pub title_words : Title → List ℕ
title_words title.Certificate = codes "certificate 1"
title_words title.Costate = codes "costate 1"

-- from the first line on that is this title, where the text stands at the start of a line or not; nothing where there is no such line
abbrev pub part_from : List ℕ → Bool → List ℕ → List ℕ
part_from words at_start [] = []
part_from words at_start (b ∷ bs) =
    if at_start && begins (line words) (b ∷ bs) then b ∷ bs else part_from words (b == 10) bs

-- the part of a report under a title
abbrev pub titled_part : Title → List ℕ → List ℕ
titled_part t text = part_from (title_words t) true text

-- the certificate part of a report
abbrev pub certificate_part : List ℕ → List ℕ
certificate_part text = titled_part title.Certificate text

-- a text that isn't looked at further: under each title, the part of a report that begins with it is that of what stands behind it
abbrev pub IsPassed : List ℕ → Type 0
IsPassed front = (t : Title) (rest : List ℕ) → titled_part t (front ++ rest) ≡ titled_part t rest
