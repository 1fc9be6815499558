-- Quotients rounded to whole numbers, also of negative numbers.
use Rattle.std.specs.Prelude.{ℕ, ◌+◌, ◌/◌, ℤ, pos, negsuc, neg_ℤ}
use Rattle.std.specs.Int.{div_ceil}

-- the greatest whole number that is at most n / unit
abbrev pub rounded_down : ℕ → ℤ → ℤ
rounded_down unit (pos n) = pos (n / unit)
rounded_down unit (negsuc n) = neg_ℤ (pos (div_ceil (n + 1) unit))

-- the least whole number that is at least n / unit
abbrev pub rounded_up : ℕ → ℤ → ℤ
rounded_up unit (pos n) = pos (div_ceil n unit)
rounded_up unit (negsuc n) = neg_ℤ (pos ((n + 1) / unit))
