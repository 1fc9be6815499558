-- Costate certificates in range, and the one text of each.
use Rattle.std.specs.Prelude.{ℕ, ◌+◌, ◌^◌, ◌≤◌, ◌≡◌, ℤ, pos, List, ◌∷◌, ◌++◌, map, codes, length, All}
use Rattle.std.specs.Fmt.{signed_decimal}
use Rattle.std.specs.Int.RustNames.{unsigned_abs}
use Rattle.rail_base.specs.Texts.{line}
use Rattle.dual_certificate.specs.Text.{IsModest, fields_text, one_line, prices_line}
use Rattle.costate_text.specs.declared.certificate.CostateCertificate.{CostateCertificate}

-- a certificate's numbers and counts are in their ranges
pub record IsCostateCertificate (c : CostateCertificate) : Type 0 where
  pub energy : IsModest c.energy
  pub bound : IsModest c.bound
  pub prices : (1 ≤ length c.prices) × (length c.prices ≤ 64)
  pub price : All (λ p. p ≤ 2 ^ 50) c.prices
  pub points : (2 ≤ length c.speeds) × (length c.speeds ≤ 4001)
  pub speed : All (λ v. v ≤ 12000) c.speeds
  pub steps : length c.costates + 1 ≡ length c.speeds
  pub costate : All (λ s. unsigned_abs s ≤ 2 ^ 22) c.costates

-- a speed or another number behind a space
abbrev pub speed_field : ℕ → List ℕ
speed_field v = 32 ∷ signed_decimal (pos v)

abbrev pub number_field : ℤ → List ℕ
number_field z = 32 ∷ signed_decimal z

-- a line of a word and numbers
unfoldable pub numbers_line : List ℕ → List ℤ → List ℕ
numbers_line word numbers = line (word ++ fields_text (map signed_decimal numbers))

-- the text of a certificate: lines that end with a line feed, fields parted by one space, numbers in their shortest spelling
unfoldable pub text_of : CostateCertificate → List ℕ
text_of c =
    line (codes "costate 1")
    ++ (one_line (codes "points ") (pos (length c.speeds))
    ++ (one_line (codes "energy ") c.energy
    ++ (one_line (codes "bound ") c.bound
    ++ (prices_line c.prices
    ++ (numbers_line (codes "speeds ") (map pos c.speeds) ++ (numbers_line (codes "costates ") c.costates ++ line (codes "end")))))))
