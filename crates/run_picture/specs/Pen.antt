-- Points of a picture's text.
use Rattle.std.specs.Prelude.{ℕ, List, ◌∷◌, ◌++◌, decimal}

-- a point, so many units from the left and from above
abbrev pub point : ℕ → ℕ → List ℕ
point x y = decimal x ++ 32 ∷ decimal y
