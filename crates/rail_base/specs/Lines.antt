-- Lines of texts, and the fields and numbers on them.
-- A line ends at a line feed, and one carriage return right before that is no part of it; the last line may have no end.
use Rattle.std.specs.Prelude.{ℕ, ◌-◌, ◌==◌, ℤ, pos, Bool, false, List, [], ◌∷◌, Option, Some, None, if◌then◌else◌, nat_eq, length, drop, slice_get, slice_index_or, option_and_then}
use Rattle.std.specs.Int.RustNames.{unsigned_abs}
use Rattle.std.specs.List.{slice_split, starts_with}
use Rattle.std.specs.Str.{bytes_eq}
use Rattle.rail_base.specs.Numbers.{field_number}

-- the line with this number, counted from 1, where the text has one
abbrev pub line_at : List (List ℕ) → ℕ → Option (List ℕ)
line_at lines n = slice_get lines (n - 1)

-- a line is there and is this text
abbrev pub is_line : List ℕ → Option (List ℕ) → Bool
is_line text None = false
is_line text (Some line) = bytes_eq line text

-- a line begins with this text
abbrev pub begins : List ℕ → List ℕ → Bool
begins text line = starts_with nat_eq line text

-- the fields of a text are parted by one space each
abbrev pub fields_of : List ℕ → List (List ℕ)
fields_of text = slice_split (λ b. b == 32) text

-- a first number and the numbers after it, where each is one
abbrev pub put_first : Option ℤ → Option (List ℤ) → Option (List ℤ)
put_first None rest = None
put_first (Some n) None = None
put_first (Some n) (Some ns) = Some (n ∷ ns)

-- the numbers that fields are, where each of them is one
abbrev pub numbers_of : List (List ℕ) → Option (List ℤ)
numbers_of [] = Some []
numbers_of (field ∷ fields) = put_first (field_number field) (numbers_of fields)

-- the numbers of a text that has exactly so many fields, where each of them is one
abbrev pub numbers_in : ℕ → List ℕ → Option (List ℤ)
numbers_in count text = if length (fields_of text) == count then numbers_of (fields_of text) else None

-- the numbers on a line that has this word and exactly so many numbers behind it
abbrev pub numbers_after : List ℕ → ℕ → List ℕ → Option (List ℤ)
numbers_after word count line = if begins word line then numbers_in count (drop (length word) line) else None

-- the same of the line with this number
abbrev pub numbers_at : List (List ℕ) → ℕ → List ℕ → ℕ → Option (List ℤ)
numbers_at lines n word count = option_and_then (numbers_after word count) (line_at lines n)

-- number i, counted from 0
abbrev pub number : List ℤ → ℕ → ℤ
number numbers i = slice_index_or numbers i (pos 0)

-- the size of number i of some numbers, or 0 where they are none
abbrev pub size : Option (List ℤ) → ℕ → ℕ
size None i = 0
size (Some numbers) i = unsigned_abs (number numbers i)
