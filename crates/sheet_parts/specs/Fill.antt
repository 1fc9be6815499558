-- Texts that are made of texts.
use Rattle.std.specs.Prelude.{ℕ, zero, suc, ◌-◌, List, [], ◌++◌, length, replicate}

-- a text behind as many bytes `fill` as it is short of the width
unfoldable pub filled : ℕ → ℕ → List ℕ → List ℕ
filled fill width text = replicate (width - length text) fill ++ text

-- f 0 ++ .. ++ f (n - 1)
abbrev pub joined_below : (ℕ → List ℕ) → ℕ → List ℕ
joined_below f zero = []
joined_below f (suc n) = joined_below f n ++ f n
