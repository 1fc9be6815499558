-- The first of some answers.
use Rattle.std.specs.Prelude.{ℕ, zero, suc, List, [], ◌∷◌, Option, None}
use Rattle.std.specs.Option.{option_or}

-- the first in a list
abbrev pub first_in : {X : Type 0} → List (Option X) → Option X
first_in [] = None
first_in (o ∷ os) = option_or o (first_in os)

-- the first among f 0 .. f (n - 1)
abbrev pub first_below : {X : Type 0} → (ℕ → Option X) → ℕ → Option X
first_below f zero = None
first_below f (suc n) = option_or (first_below f n) (f n)
