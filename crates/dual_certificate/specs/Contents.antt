-- What a certificate says of a run: its drive, and its cells with their values.
use Rattle.std.specs.Prelude.{ℕ, ◌+◌, ◌-◌, ℤ, List, [], ◌∷◌, map, Option, None, if◌then◌else◌, nat_lt, length, slice_index_or}
use Rattle.bound_specs.specs.declared.Cell.{Cell}
use Rattle.dual_certificate.specs.declared.certificate.CertCell.{CertCell}
use Rattle.dual_certificate.specs.declared.certificate.CertPoint.{CertPoint}
use Rattle.dual_certificate.specs.declared.certificate.Certificate.{Certificate}

-- the drive's speeds
abbrev pub speeds_of : Certificate → List ℕ
speeds_of c = map (λ p. p.speed) c.points

-- what stands past the last cell of a point, and past the last point
abbrev pub no_cert_cell : CertCell
no_cert_cell = record { first = 0; potential = None }

abbrev pub no_point : CertPoint
no_point = record { speed = 0; greatest = 0; cells = [] }

abbrev pub point_at : List CertPoint → ℕ → CertPoint
point_at points k = slice_index_or points k no_point

-- the first speed of cell a of a point
abbrev pub first_of : CertPoint → ℕ → ℕ
first_of p a = (slice_index_or p.cells a no_cert_cell).first

-- cell a of a point: it ends right below the next one, the last at the greatest speed
abbrev pub cell_of : CertPoint → ℕ → Cell
cell_of p a = record { first = first_of p a; last = if nat_lt (a + 1) (length p.cells) then first_of p (a + 1) - 1 else p.greatest }

-- the potential of cell a of a point
abbrev pub value_of : CertPoint → ℕ → Option ℤ
value_of p a = (slice_index_or p.cells a no_cert_cell).potential

-- cells with these first speeds: each ends right below the next one, the last at the greatest speed
abbrev pub cells_up_to : ℕ → List CertCell → List Cell
cells_up_to greatest [] = []
cells_up_to greatest (c ∷ []) = record { first = c.first; last = greatest } ∷ []
cells_up_to greatest (c ∷ d ∷ cs) = record { first = c.first; last = d.first - 1 } ∷ cells_up_to greatest (d ∷ cs)

-- the cells of each point
abbrev pub point_cells : CertPoint → List Cell
point_cells p = cells_up_to p.greatest p.cells

abbrev pub cell_lists : Certificate → List (List Cell)
cell_lists c = map point_cells c.points

-- the potentials of each point's cells
abbrev pub point_values : CertPoint → List (Option ℤ)
point_values p = map (λ k. k.potential) p.cells

abbrev pub value_lists : Certificate → List (List (Option ℤ))
value_lists c = map point_values c.points
