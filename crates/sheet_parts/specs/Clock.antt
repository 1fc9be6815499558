-- Times as a clock shows them.
use Rattle.std.specs.Prelude.{ℕ, ◌/◌, ◌%◌, List, ◌∷◌, ◌++◌, ℤ}
use Rattle.std.specs.Int.RustNames.{unsigned_abs}
use Rattle.sheet_parts.specs.Decimals.{digits_text, minus_of}
use Rattle.sheet_parts.specs.Rounded.{rounded_up, rounded_down}

-- a number of seconds as hours, minutes and seconds, hh:mm:ss: two digits each, more hours where there are more, a minus sign in front of a
-- negative number
unfoldable pub clock_text : ℤ → List ℕ
clock_text seconds =
    minus_of seconds
    ++ (digits_text 2 (unsigned_abs seconds / 3600)
    ++ 58 ∷ (digits_text 2 (unsigned_abs seconds / 60 % 60) ++ 58 ∷ digits_text 2 (unsigned_abs seconds % 60)))

-- the least number of seconds that is at least so many ms
abbrev pub seconds_up : ℤ → ℤ
seconds_up ms = rounded_up 1000 ms

-- the greatest number of seconds that is at most so many ms
abbrev pub seconds_down : ℤ → ℤ
seconds_down ms = rounded_down 1000 ms
