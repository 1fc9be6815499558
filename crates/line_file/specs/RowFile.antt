-- What a text of a header and rows says, or why it is none.
use Rattle.std.specs.Prelude.{◌==◌, ◌+◌, ◌++◌, ◌∷◌, Bool, ℕ, List, [], Option, Some, None, Result, Ok, Err, if◌then◌else◌, length, nat_lt, not}
use Rattle.std.specs.Option.{option_or}
use Rattle.line_file.specs.Rows.{Fields}

-- what is wrong with row n: its number of fields, or that there are more rows than the most, or else another fault
abbrev pub counted_fault : {F : Type 0} → ℕ → F → F → ℕ → Fields → Option F → Option F
counted_fault most bad_row too_many n fields other =
    if not (length fields == 4) then Some bad_row
    else if nat_lt most n then Some too_many
    else other

-- what is wrong with the first bad row of those that follow other rows, which say something of type T
unfoldable pub rows_fault : {T F : Type 0} → (List Fields → T) → (ℕ → T → Fields → Option F) → List Fields → List Fields → Option F
rows_fault from fault before [] = None
rows_fault from fault before (r ∷ rows) = option_or (fault (length before + 1) (from before) r) (rows_fault from fault (before ++ r ∷ []) rows)

-- what is read, or what is wrong with it
abbrev pub unless : {T F : Type 0} → Option F → T → Result T F
unless None read = Ok read
unless (Some f) read = Err f

-- what the rows below the header say: the first fault of a row, or of the whole, or what is read
abbrev pub below_header : {T F : Type 0} → (List Fields → T) → (ℕ → T → Fields → Option F) → (T → Option F) → List Fields → Result T F
below_header from fault whole rows = unless (option_or (rows_fault from fault [] rows) (whole (from rows))) (from rows)

-- what the rows of a text say, of which the first is the header
abbrev pub rows_in : {T F : Type 0} → (Fields → Bool) → F → (List Fields → Result T F) → List Fields → Result T F
rows_in is_header bad_header below [] = Err bad_header
rows_in is_header bad_header below (header ∷ rows) = if is_header header then below rows else Err bad_header
