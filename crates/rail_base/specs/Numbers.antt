-- How numbers stand in the texts that are read.
use Rattle.std.specs.Prelude.{◌==◌, ◌&&◌, Bool, ℕ, ℤ, pos, neg_ℤ, List, [], ◌∷◌, Option, Some, None, option_map, if◌then◌else◌, nat_lt, nat_le, length, slice_index, drop, reverse}
use Rattle.std.specs.Int.RustNames.{int_le}
use Rattle.std.specs.Str.{all_ascii_digits}
use Rattle.std.specs.Str.Parse.{digits_value, starts_with_minus}

-- a text without the spaces that it begins with
abbrev pub after_spaces : List ℕ → List ℕ
after_spaces [] = []
after_spaces (c ∷ cs) = if c == 32 then after_spaces cs else c ∷ cs

-- a text without the spaces that it ends with
abbrev pub before_spaces : List ℕ → List ℕ
before_spaces text = reverse (after_spaces (reverse text))

-- a text without the spaces at both ends
abbrev pub trimmed : List ℕ → List ℕ
trimmed text = before_spaces (after_spaces text)

-- the number that 1 to `most` decimal digits write, and nothing else does
abbrev pub digits_number : ℕ → List ℕ → Option ℕ
digits_number most text =
    if nat_lt 0 (length text) && nat_le (length text) most && all_ascii_digits text then Some (digits_value 10 text) else None

-- the number of a field of a route: a minus or none, then 1 to 18 decimal digits
abbrev pub field_number : List ℕ → Option ℤ
field_number text =
    if starts_with_minus text then option_map (λ n. neg_ℤ (pos n)) (digits_number 18 (drop 1 text))
    else option_map pos (digits_number 18 text)

-- the number of a field of an event: 1 to 9 decimal digits
abbrev pub count_number : List ℕ → Option ℕ
count_number text = digits_number 9 text

-- a text begins with '+'
abbrev pub starts_with_plus : List ℕ → Bool
starts_with_plus text = slice_index text 0 == 43

-- the number that a text is: spaces at both ends dropped, a minus or a plus or none, then 1 to 18 decimal digits
abbrev pub number_of : List ℕ → Option ℤ
number_of text =
    let inside = trimmed text in
    if starts_with_plus inside then option_map pos (digits_number 18 (drop 1 inside)) else field_number inside

-- a number is from low to high
abbrev pub is_within : ℤ → ℤ → ℤ → Bool
is_within low high n = int_le low n && int_le n high
