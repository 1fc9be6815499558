-- One more of the texts that are joined.
use Rattle.std.proofs.Common.{ℕ, ◌≡◌, ◌+◌, ◌++◌, List, refl, add-one}
use Rattle.sheet_parts.specs.Fill.{joined_below}

pub joined_below-next : (f : ℕ → List ℕ) (n : ℕ) → joined_below f (n + 1) ≡ joined_below f n ++ f n
joined_below-next f n = rw (add-one n) refl

pub ruleset joins = (joined_below-next)
