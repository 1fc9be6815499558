-- Names as they are shown. A name is any bytes of a file; what is shown of it stays on its line and steers no terminal.
use Rattle.std.specs.Prelude.{ℕ, zero, suc, ◌==◌, ◌&&◌, ◌||◌, nat_le, nat_lt, Bool, List, [], ◌∷◌, ◌++◌, codes, length, slice_index, if◌then◌else◌}
use Rattle.std.specs.List.{flat_map}
use Rattle.std.specs.Str.{is_utf8}
use Rattle.sheet_parts.specs.Fill.{joined_below}

-- what is shown of a byte from 128 on, behind two others, in a name that is UTF-8: a no-break space for a control character of two bytes, and
-- U+FFFD for U+FFFE and U+FFFF, which xml doesn't allow
abbrev pub shown_part : ℕ → ℕ → ℕ → ℕ
shown_part earlier before byte =
    if before == 194 && nat_lt byte 160 then 160
    else if earlier == 239 && before == 191 && nat_le 190 byte then 189
    else byte

-- what is shown of a byte behind two others, in a name that is UTF-8 or isn't: a space for a control character, and a question mark for a byte
-- of which nothing is known
abbrev pub shown_byte : Bool → ℕ → ℕ → ℕ → ℕ
shown_byte utf8 earlier before byte =
    if nat_lt byte 32 || byte == 127 then 32
    else if nat_lt byte 128 then byte
    else if utf8 then shown_part earlier before byte
    else 63

-- what is shown of byte i of a name
abbrev pub shown_at : List ℕ → ℕ → ℕ
shown_at name i = shown_byte (is_utf8 name) (slice_index (0 ∷ 0 ∷ name) i) (slice_index (0 ∷ name) i) (slice_index name i)

-- a name as it is shown
unfoldable pub shown_name : List ℕ → List ℕ
shown_name name = joined_below (λ i. shown_at name i ∷ []) (length name)

-- a byte goes on a character that an earlier one begins
abbrev pub goes_on : ℕ → Bool
goes_on byte = nat_le 128 byte && nat_lt byte 192

-- the bytes of the first so many characters of a text
abbrev pub first_characters : ℕ → List ℕ → List ℕ
first_characters most [] = []
first_characters zero (b ∷ bs) = if goes_on b then b ∷ first_characters zero bs else []
first_characters (suc n) (b ∷ bs) = if goes_on b then b ∷ first_characters (suc n) bs else b ∷ first_characters n bs

-- a text, or the first so many characters of it and three points, where it has more
unfoldable pub clipped : ℕ → List ℕ → List ℕ
clipped most text =
    if length (first_characters most text) == length text then text else first_characters most text ++ codes "..."

-- a byte as it stands in a text of xml
abbrev pub escaped_byte : ℕ → List ℕ
escaped_byte byte =
    if byte == 38 then codes "&amp;"
    else if byte == 60 then codes "&lt;"
    else if byte == 62 then codes "&gt;"
    else if byte == 34 then codes "&quot;"
    else if byte == 39 then codes "&apos;"
    else byte ∷ []

-- a text as it stands in xml
abbrev pub escaped : List ℕ → List ℕ
escaped text = flat_map escaped_byte text
