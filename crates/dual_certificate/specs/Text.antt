-- Certificates in range, and the one text of each.
use Rattle.std.specs.Prelude.{ℕ, ◌+◌, ◌^◌, ◌≤◌, ℤ, pos, List, [], ◌∷◌, ◌++◌, map, codes, length, sum_by, Option, Some, None, IfSome, All}
use Rattle.std.specs.Fmt.{decimal, signed_decimal}
use Rattle.std.specs.Int.RustNames.{unsigned_abs}
use Rattle.std.specs.List.{flat_map, join_with_byte}
use Rattle.rail_base.specs.Texts.{line}
use Rattle.dual_certificate.specs.declared.certificate.CertCell.{CertCell}
use Rattle.dual_certificate.specs.declared.certificate.CertPoint.{CertPoint}
use Rattle.dual_certificate.specs.declared.certificate.Certificate.{Certificate}

-- ---- what is in range

-- a number of 0.5 microjoule is within 2^100
abbrev pub IsModest : ℤ → Type 0
IsModest n = unsigned_abs n ≤ 2 ^ 100

-- cells of a point from a speed on and up to a greatest one: their first speeds rise strictly, and their potentials are within 2^100
abbrev pub RiseFrom : ℕ → ℕ → List CertCell → Type 0
RiseFrom least greatest [] = Unit {0}
RiseFrom least greatest (c ∷ cs) =
    ((least ≤ c.first) × (c.first ≤ greatest) × IfSome c.potential IsModest) × RiseFrom (c.first + 1) greatest cs

-- a point: its speeds are at most 12,000 cm/s, and it has a cell at least; the cells' first speeds rise strictly, the last of them at most
-- the greatest speed
pub record IsPoint (p : CertPoint) : Type 0 where
  pub speed : p.speed ≤ 12000
  pub greatest : p.greatest ≤ 12000
  pub some : 1 ≤ length p.cells
  pub cells : RiseFrom 0 p.greatest p.cells

-- how many cells there are at all points
abbrev pub cells_in : List CertPoint → ℕ
cells_in points = sum_by (λ p. length p.cells) points

-- a certificate's numbers, counts and orders are in their ranges
pub record IsCertificate (c : Certificate) : Type 0 where
  pub energy : IsModest c.energy
  pub bound : IsModest c.bound
  pub prices : (1 ≤ length c.prices) × (length c.prices ≤ 64)
  pub price : All (λ p. p ≤ 2 ^ 50) c.prices
  pub points : (2 ≤ length c.points) × (length c.points ≤ 4001)
  pub point : All IsPoint c.points
  pub cells : cells_in c.points ≤ 54001

-- ---- the text: lines that end with a line feed, fields parted by one space, numbers in their shortest spelling

-- a potential, or `-` where there is none
abbrev pub potential_text : Option ℤ → List ℕ
potential_text None = codes "-"
potential_text (Some q) = signed_decimal q

-- a cell: its first speed, `=` and its potential
abbrev pub cell_text : CertCell → List ℕ
cell_text c = decimal c.first ++ 61 ∷ potential_text c.potential

-- a cell or a price behind a space
abbrev pub cell_field : CertCell → List ℕ
cell_field c = 32 ∷ cell_text c

abbrev pub price_field : ℕ → List ℕ
price_field p = 32 ∷ decimal p

-- fields parted by one space each
abbrev pub fields_text : List (List ℕ) → List ℕ
fields_text fields = join_with_byte 32 fields

-- a point's line: the drive's speed, the greatest speed of the last cell, and the cells
unfoldable pub point_line : CertPoint → List ℕ
point_line p = line (codes "point " ++ (decimal p.speed ++ 32 ∷ (decimal p.greatest ++ 32 ∷ fields_text (map cell_text p.cells))))

-- a line of a word and a number
unfoldable pub one_line : List ℕ → ℤ → List ℕ
one_line word n = line (word ++ signed_decimal n)

-- the line of the prices
unfoldable pub prices_line : List ℕ → List ℕ
prices_line prices = line (codes "prices " ++ fields_text (map decimal prices))

-- the text of a certificate
unfoldable pub text_of : Certificate → List ℕ
text_of c =
    line (codes "certificate 1")
    ++ (one_line (codes "points ") (pos (length c.points))
    ++ (one_line (codes "energy ") c.energy
    ++ (one_line (codes "bound ") c.bound ++ (prices_line c.prices ++ (flat_map point_line c.points ++ line (codes "end"))))))
