-- The places of a grid: a set of places, as a rising list.
use Rattle.std.specs.Prelude.{ℕ, ◌+◌, ◌%◌, ◌<◌, ◌≡◌, ◌↔◌, ◌⊎◌, List, length, slice_index, Contains}

-- a place of the grid: either end, or a mark or a multiple of the step that lies strictly between the ends
abbrev pub IsPlace : List ℕ → ℕ → ℕ → ℕ → ℕ → Type 0
IsPlace marks step from to p = (p ≡ from) ⊎ (p ≡ to) ⊎ ((from < p) × (p < to) × (Contains marks p ⊎ (p % step ≡ 0)))

-- the places of the grid in rising order, each once
pub record IsGrid (marks : List ℕ) (step from to : ℕ) (places : List ℕ) : Type 0 where
  pub rises : (k : ℕ) → k + 1 < length places → slice_index places k < slice_index places (k + 1)
  pub members : (p : ℕ) → Contains places p ↔ IsPlace marks step from to p
