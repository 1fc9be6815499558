-- What a line file says, or why a text is none.
use Rattle.std.specs.Prelude.{◌==◌, ◌&&◌, ◌||◌, ◌-◌, ◌*◌, ◌/◌, ◌++◌, Bool, ℕ, ℤ, pos, negsuc, List, [], Option, Some, None, Result, Ok, Err, if◌then◌else◌, length, nat_lt, not, codes, slice_index_or}
use Rattle.std.specs.Int.RustNames.{int_le, int_lt, unsigned_abs}
use Rattle.std.specs.List.{cons_option, filter_map}
use Rattle.std.specs.Str.{bytes_eq}
use Rattle.rail_base.specs.Numbers.{number_of, trimmed}
use Rattle.line_file.specs.Rows.{Fields, field_of, has_fields, rows_of}
use Rattle.line_file.specs.RowFile.{below_header, counted_fault, rows_in}
use Rattle.line_file.specs.declared.sections.Section.{Section}
use Rattle.line_file.specs.declared.line.Line.{Line}
use Rattle.line_file.specs.declared.line.LineFault.{LineFault}
use Rattle.line_file.specs.declared.line.LineFault.TheVariants as fault
use Rattle.line_file.specs.declared.line.Kind.{Kind}
use Rattle.line_file.specs.declared.line.Kind.TheVariants.{Limit, Gradient}
use Rattle.line_file.specs.declared.line.RowNumbers.{RowNumbers}
use Rattle.line_file.specs.declared.line.LineRow.{LineRow}
use Rattle.line_file.specs.declared.line.RowFault.{RowFault}
use Rattle.line_file.specs.declared.line.RowFault.TheVariants as amiss

-- the kind that a field names
abbrev pub kind_of : List ℕ → Option Kind
kind_of text =
    if bytes_eq (trimmed text) (codes "limit") then Some Limit
    else if bytes_eq (trimmed text) (codes "gradient") then Some Gradient
    else None

-- three numbers, where each is one
abbrev pub three_numbers : Option ℤ → Option ℤ → Option ℤ → Option RowNumbers
three_numbers None to value = None
three_numbers (Some from) None value = None
three_numbers (Some from) (Some to) None = None
three_numbers (Some from) (Some to) (Some value) = Some (record { from = from; to = to; value = value })

-- the three numbers of a row: where it begins, where it ends, and its value
abbrev pub numbers_of : Fields → Option RowNumbers
numbers_of fields = three_numbers (number_of (field_of fields 1)) (number_of (field_of fields 2)) (number_of (field_of fields 3))

-- the value of a row: a limit is 1 to 432 km/h, a gradient -1,000 to 1,000 tenths of a per mille
abbrev pub is_value : Kind → ℤ → Bool
is_value Limit value = int_le (pos 1) value && int_le value (pos 432)
is_value Gradient value = int_le (negsuc 999) value && int_le value (pos 1000)

-- the numbers of a row are in their ranges: places are 0 to 1,000,000 m, and the row has a length
abbrev pub is_in_range : Kind → RowNumbers → Bool
is_in_range kind n = int_le (pos 0) n.from && int_lt n.from n.to && int_le n.to (pos 1000000) && is_value kind n.value

-- the value that is kept: a limit in cm/s, rounded down
abbrev pub kept_value : Kind → ℤ → ℤ
kept_value Limit value = pos (unsigned_abs value * 100000 / 3600)
kept_value Gradient value = value

-- the row of numbers that are in their ranges
abbrev pub row_from : Kind → RowNumbers → LineRow
row_from kind n = record {
  kind = kind;
  section = record { from = unsigned_abs n.from; to = unsigned_abs n.to; value = kept_value kind n.value };
}

-- a row of a kind and numbers, or what is wrong with it
abbrev pub checked_row : Option Kind → Option RowNumbers → Result LineRow RowFault
checked_row None numbers = Err amiss.Kind
checked_row (Some kind) None = Err amiss.Number
checked_row (Some kind) (Some n) = if is_in_range kind n then Ok (row_from kind n) else Err amiss.Range

-- what the four fields of a row say by themselves
abbrev pub row_of : Fields → Result LineRow RowFault
row_of fields = checked_row (kind_of (field_of fields 0)) (numbers_of fields)

-- the first for a limit, the second for a gradient
abbrev pub by_kind : {T : Type 0} → Kind → T → T → T
by_kind Limit a b = a
by_kind Gradient a b = b

-- the section of a row with a limit
abbrev pub limit_in : Result LineRow RowFault → Option Section
limit_in (Ok row) = by_kind row.kind (Some row.section) None
limit_in (Err f) = None

-- the section of a row with a gradient
abbrev pub gradient_in : Result LineRow RowFault → Option Section
gradient_in (Ok row) = by_kind row.kind None (Some row.section)
gradient_in (Err f) = None

-- the line of rows: the sections of each kind, in order
abbrev pub line_from : List Fields → Line
line_from rows = record {
  limits = filter_map (λ r. limit_in (row_of r)) rows;
  gradients = filter_map (λ r. gradient_in (row_of r)) rows;
}

-- a line with the section of one more row
abbrev pub with_row : Line → Result LineRow RowFault → Line
with_row line row = record {
  limits = line.limits ++ cons_option (limit_in row) [];
  gradients = line.gradients ++ cons_option (gradient_in row) [];
}

-- what stands in place of a section that is not there
abbrev pub no_section : Section
no_section = record { from = 0; to = 0; value = pos 0 }

-- where sections begin and where they end
abbrev pub first_from : List Section → ℕ
first_from sections = (slice_index_or sections 0 no_section).from

abbrev pub last_to : List Section → ℕ
last_to sections = (slice_index_or sections (length sections - 1) no_section).to

-- there are sections
abbrev pub are_some : List Section → Bool
are_some sections = nat_lt 0 (length sections)

-- a section begins where those before it end, or is the first
abbrev pub follows : List Section → Section → Bool
follows before next = not (are_some before) || (last_to before == next.from)

-- what is wrong with row n after the rows of a line, by what its fields say
abbrev pub fault_of : ℕ → Line → Result LineRow RowFault → Option LineFault
fault_of n line (Err amiss.Kind) = Some (fault.BadKind n)
fault_of n line (Err amiss.Number) = Some (fault.BadNumber n)
fault_of n line (Err amiss.Range) = Some (fault.OutOfRange n)
fault_of n line (Ok row) = if follows (by_kind row.kind line.limits line.gradients) row.section then None else Some (fault.Gap n)

-- what is wrong with row n after the rows of a line
abbrev pub row_fault : ℕ → Line → Fields → Option LineFault
row_fault n line fields = counted_fault 20000 (fault.BadRow n) fault.TooManyRows n fields (fault_of n line (row_of fields))

-- what is wrong with a line whose rows are right
abbrev pub whole_fault : Line → Option LineFault
whole_fault line =
    if not (are_some line.limits && are_some line.gradients) then Some fault.NoSections
    else if (first_from line.limits == first_from line.gradients) && (last_to line.limits == last_to line.gradients) then None
    else Some fault.EndsDiffer

-- the header of a line file
abbrev pub is_line_header : Fields → Bool
is_line_header fields = has_fields fields (codes "kind") (codes "from") (codes "to") (codes "value")

-- what a text says
abbrev pub line_of : List ℕ → Result Line LineFault
line_of text = rows_in is_line_header fault.BadHeader (below_header line_from row_fault whole_fault) (rows_of text)
