-- How numbers stand in a certificate: in their one shortest decimal spelling.
use Rattle.std.specs.Prelude.{ℕ, zero, suc, ◌+◌, ◌^◌, min, ◌==◌, ◌&&◌, ◌||◌, not, Bool, ℤ, pos, negsuc, List, Option, Some, None, option_map, if◌then◌else◌, nat_lt, nat_le, length, drop, slice_index}
use Rattle.std.specs.Str.{all_ascii_digits}
use Rattle.std.specs.Str.Parse.{digits_value, starts_with_minus}

-- digits, at least one, without a leading zero
abbrev pub is_shortest : List ℕ → Bool
is_shortest text = nat_lt 0 (length text) && all_ascii_digits text && (nat_le (length text) 1 || not (slice_index text 0 == 48))

-- the number that digits write; 2^100 + 1 stands for every number above 2^100, all of which are out of every range
abbrev pub digits_size : List ℕ → ℕ
digits_size text = min (digits_value 10 text) (2 ^ 100 + 1)

-- the number that digits in their shortest spelling write, none where the text is anything else
abbrev pub size_spelled : List ℕ → Option ℕ
size_spelled text = if is_shortest text then Some (digits_size text) else None

-- the number with a minus before it: there is none of zero
abbrev pub below_zero : Option ℕ → Option ℤ
below_zero None = None
below_zero (Some zero) = None
below_zero (Some (suc n)) = Some (negsuc n)

-- the number that a text is in its shortest spelling, none where it is no such text
abbrev pub number_spelled : List ℕ → Option ℤ
number_spelled text = if starts_with_minus text then below_zero (size_spelled (drop 1 text)) else option_map pos (size_spelled text)
