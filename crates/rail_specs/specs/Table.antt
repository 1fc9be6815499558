-- Tables of force by speed: rows (speed, force), with straight lines between them, rounded down.
use Rattle.std.specs.Prelude.{ℕ, ◌+◌, ◌-◌, ◌*◌, ◌/◌, ◌<◌, ◌≤◌, ◌≡◌, List, [], ◌∷◌, if◌then◌else◌, nat_lt, length, slice_index, All}

-- the force in N at speed v
abbrev pub force : List (ℕ × ℕ) → ℕ → ℕ
force [] v = 0
force (p ∷ []) v = p.1
force (p ∷ q ∷ rows) v =
    if nat_lt v q.0 then (p.1 * (q.0 - v) + q.1 * (v - p.0)) / (q.0 - p.0) else force (q ∷ rows) v

-- the greatest speed of the rows
abbrev pub top_speed : List (ℕ × ℕ) → ℕ
top_speed [] = 0
top_speed (p ∷ []) = p.0
top_speed (p ∷ q ∷ rows) = top_speed (q ∷ rows)

-- the forces are those of the rows, one for each speed from 0 to the top
pub record IsTableOf (rows : List (ℕ × ℕ)) (forces : List ℕ) : Type 0 where
  pub top : length forces ≡ top_speed rows + 1
  pub at : (v : ℕ) → v ≤ top_speed rows → slice_index forces v ≡ force rows v

-- speeds and forces are in range
abbrev pub AreRows : List (ℕ × ℕ) → Type 0
AreRows rows = All (λ p. (p.0 ≤ 12000) × (p.1 ≤ 2000000)) rows

-- forces in range for speeds from 0 on, none above the one before
pub record IsForceTable (forces : List ℕ) : Type 0 where
  pub some : 0 < length forces
  pub speeds : length forces ≤ 12001
  pub in_range : (v : ℕ) → slice_index forces v ≤ 2000000
  pub never_rises : (v w : ℕ) → v ≤ w → slice_index forces w ≤ slice_index forces v
