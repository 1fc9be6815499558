-- Numbers with digits behind a point.
use Rattle.std.specs.Prelude.{ℕ, ◌/◌, ◌%◌, ◌^◌, List, [], ◌∷◌, ◌++◌, ℤ, pos, decimal, if◌then◌else◌}
use Rattle.std.specs.Int.RustNames.{int_lt, unsigned_abs}
use Rattle.sheet_parts.specs.Fill.{filled}

-- a whole number in so many digits at least, with zeros in front
unfoldable pub digits_text : ℕ → ℕ → List ℕ
digits_text width n = filled 48 width (decimal n)

-- a minus sign before a negative number
abbrev pub minus_of : ℤ → List ℕ
minus_of n = if int_lt n (pos 0) then 45 ∷ [] else []

-- a whole number of units of which 10 ^ places are one, with so many digits behind the point: 1724 with 3 places is 1.724
unfoldable pub decimals_text : ℕ → ℤ → List ℕ
decimals_text places n =
    minus_of n ++ (decimal (unsigned_abs n / 10 ^ places) ++ 46 ∷ digits_text places (unsigned_abs n % 10 ^ places))
