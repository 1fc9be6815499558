-- The rows of a text of comma-separated fields.
use Rattle.std.specs.Prelude.{◌≡◌, ◌==◌, ◌&&◌, ◌+◌, ◌∷◌, Bool, true, false, ℕ, List, [], Some, filter, if◌then◌else◌, length, not, drop, nat_eq, unwrap_or, IsSome}
use Rattle.std.specs.Str.{bytes_eq}
use Rattle.std.specs.List.{starts_with}
use Rattle.std.specs.Borrow.{Bor}
use Rattle.csv.specs.Records.{field_at}
use Rattle.csv.specs.Reading.{Ready, default_config, is_flexible, reader_config, reader_state, reader_trim, records, records_from, source_of, strip_bom}
use Rattle.csv.specs.declared.reader.Reader.{Reader}
use Rattle.csv.specs.declared.reader.Trim.TheVariants as trim
use Rattle.rail_base.specs.Numbers.{trimmed}

-- a record of a text: its fields, each of bytes
abbrev pub Fields : Type 0
Fields = List (List ℕ)

-- the byte order mark, U+FEFF in UTF-8
abbrev pub mark : List ℕ
mark = 0xEF ∷ 0xBB ∷ 0xBF ∷ []

-- a text without one byte order mark at its start
abbrev pub without_mark : List ℕ → List ℕ
without_mark text = if starts_with nat_eq text mark then drop 3 text else text

-- the records of a text, as csv reads it: its reader takes a byte order mark of its own
abbrev pub csv_records : List ℕ → List Fields
csv_records text = records default_config (strip_bom text)

-- a text has no bytes
abbrev pub is_empty : List ℕ → Bool
is_empty text = length text == 0

-- a record has no field, or one field that is empty but for spaces
abbrev pub is_blank : Fields → Bool
is_blank [] = true
is_blank (f ∷ []) = is_empty (trimmed f)
is_blank (f ∷ g ∷ fs) = false

-- the records that are not blank
abbrev pub filled : List Fields → List Fields
filled rows = filter (λ r. not (is_blank r)) rows

-- the records of a text that are not blank: the header and the rows
unfoldable pub rows_of : List ℕ → List Fields
rows_of text = filled (csv_records (without_mark text))

-- the field at a place, which has no bytes where there is none
abbrev pub field_of : Fields → ℕ → List ℕ
field_of fields i = unwrap_or (field_at fields i) []

-- the field at a place is this text, with spaces at both ends dropped
abbrev pub is_field : Fields → ℕ → List ℕ → Bool
is_field fields i text = bytes_eq (trimmed (field_of fields i)) text

-- the fields are just these four
abbrev pub has_fields : Fields → List ℕ → List ℕ → List ℕ → List ℕ → Bool
has_fields fields a b c d =
    (length fields == 4) && (is_field fields 0 a && (is_field fields 1 b && (is_field fields 2 c && is_field fields 3 d)))

-- the next row was taken, or there is none
abbrev pub TakesRow : Bool → Fields → List Fields → List Fields → Type 0
TakesRow true fields old new = old ≡ fields ∷ new
TakesRow false fields old new = (old ≡ []) × (new ≡ [])

-- the bytes that a reader over a slice has left
abbrev pub bytes_left : Reader (Bor (List ℕ)) → List ℕ
bytes_left r = unwrap_or (source_of (λ s. Some s.now) r) []

-- the records that a reader over a slice has left
abbrev pub records_left : Reader (Bor (List ℕ)) → List Fields
records_left r = records_from default_config (length (bytes_left r) + 1) (reader_state r) (bytes_left r)

-- the rows that it has left
abbrev pub rows_left : Reader (Bor (List ℕ)) → List Fields
rows_left r = filled (records_left r)

-- a reader over a slice, in the middle of a text
abbrev pub IsReading : Reader (Bor (List ℕ)) → Type 0
IsReading r = (reader_trim r ≡ trim.None) × Ready r × (is_flexible r ≡ true) × (reader_config r ≡ default_config) × IsSome (source_of (λ s. Some s.now) r)
