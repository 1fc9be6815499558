-- What a cost of work must keep so that costates bound it.
use Rattle.std.specs.Prelude.{ℕ, ℤ, pos, ◌*ℤ◌, ◌≤ℤ◌, min}

-- work costs at least itself, and at least the share of it, in per mille, that braking gives back; a share above 1,000 counts as 1,000
pub record CoversWork (share : ℕ) (cost : ℤ → ℤ) : Type 0 where
  pub work : (w : ℤ) → w ≤ℤ cost w
  pub returned : (w : ℤ) → (pos (min share 1000) *ℤ w) ≤ℤ (pos 1000 *ℤ cost w)
