-- Lines of the texts that are written. Each line ends with a line feed, and numbers are in their shortest decimal spelling.
use Rattle.std.specs.Prelude.{ℕ, List, [], ◌∷◌, ◌++◌, ℤ}
use Rattle.std.specs.Fmt.{signed_decimal}

-- a line of a text
abbrev pub line : List ℕ → List ℕ
line text = text ++ 10 ∷ []

-- a space and a number
abbrev pub spaced : ℤ → List ℕ
spaced n = 32 ∷ signed_decimal n

-- a line of a word and a number
unfoldable pub number_line : List ℕ → ℤ → List ℕ
number_line word n = line (word ++ spaced n)
