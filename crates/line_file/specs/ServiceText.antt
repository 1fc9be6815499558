-- What a service file says, or why a text is none.
use Rattle.std.specs.Prelude.{◌&&◌, ◌||◌, ◌-◌, ◌++◌, Bool, true, ℕ, ℤ, pos, List, [], Option, Some, None, option_map, is_some, Result, Ok, Err, if◌then◌else◌, count_by, drop, length, nat_lt, not, codes, slice_index_or}
use Rattle.std.specs.Int.RustNames.{int_le, unsigned_abs}
use Rattle.std.specs.List.{cons_option, filter_map}
use Rattle.std.specs.Result.{result_ok}
use Rattle.rail_base.specs.Numbers.{number_of, trimmed}
use Rattle.line_file.specs.Rows.{Fields, field_of, has_fields, is_empty, rows_of}
use Rattle.line_file.specs.RowFile.{below_header, counted_fault, rows_in}
use Rattle.line_file.specs.declared.calls.Call.{Call}
use Rattle.line_file.specs.declared.service.Service.{Service}
use Rattle.line_file.specs.declared.service.ServiceFault.{ServiceFault}
use Rattle.line_file.specs.declared.service.ServiceFault.TheVariants as fault
use Rattle.line_file.specs.declared.service.CallNumbers.{CallNumbers}
use Rattle.line_file.specs.declared.service.CallFault.{CallFault}
use Rattle.line_file.specs.declared.service.CallFault.TheVariants as amiss

-- a field that is a number, or is empty but for spaces
abbrev pub optional_number : List ℕ → Option (Option ℤ)
optional_number text = if is_empty (trimmed text) then Some None else option_map (λ n. Some n) (number_of text)

-- a place, a dwell and a latest time, where each is a number or may be left out
abbrev pub three_numbers : Option ℤ → Option (Option ℤ) → Option (Option ℤ) → Option CallNumbers
three_numbers None dwell latest = None
three_numbers (Some place) None latest = None
three_numbers (Some place) (Some dwell) None = None
three_numbers (Some place) (Some dwell) (Some latest) = Some (record { place = place; dwell = dwell; latest = latest })

-- the numbers of a row; the name, which is the second field, is not used
abbrev pub numbers_of : Fields → Option CallNumbers
numbers_of fields = three_numbers (number_of (field_of fields 0)) (optional_number (field_of fields 2)) (optional_number (field_of fields 3))

-- a number of seconds up to the most, or none
abbrev pub are_seconds : ℕ → Option ℤ → Bool
are_seconds most None = true
are_seconds most (Some n) = int_le (pos 0) n && int_le n (pos most)

-- the numbers are in their ranges: places are 0 to 1,000,000 m, dwells 0 to 7,200 s, latest times 0 to 172,800 s
abbrev pub is_in_range : CallNumbers → Bool
is_in_range n = int_le (pos 0) n.place && int_le n.place (pos 1000000) && are_seconds 7200 n.dwell && are_seconds 172800 n.latest

-- the call of numbers that are in their ranges
abbrev pub call_from : CallNumbers → Call
call_from n = record {
  place = unsigned_abs n.place;
  dwell = option_map (λ s. unsigned_abs s) n.dwell;
  latest = option_map (λ s. unsigned_abs s) n.latest;
}

-- a call of numbers, or what is wrong with them
abbrev pub checked_call : Option CallNumbers → Result Call CallFault
checked_call None = Err amiss.Number
checked_call (Some n) = if is_in_range n then Ok (call_from n) else Err amiss.Range

-- what the four fields of a row say by themselves
abbrev pub call_of : Fields → Result Call CallFault
call_of fields = checked_call (numbers_of fields)

-- the service of rows: their calls, in order
abbrev pub service_from : List Fields → Service
service_from rows = record { calls = filter_map (λ r. result_ok (call_of r)) rows }

-- a service with the call of one more row
abbrev pub with_row : Service → Result Call CallFault → Service
with_row service row = record { calls = service.calls ++ cons_option (result_ok row) [] }

-- what stands in place of a call that is not there
abbrev pub no_call : Call
no_call = record { place = 0; dwell = None; latest = None }

-- the last of some calls
abbrev pub last_call : List Call → Call
last_call calls = slice_index_or calls (length calls - 1) no_call

-- a call lies above those before it, or is the first
abbrev pub rises : List Call → Call → Bool
rises before next = not (nat_lt 0 (length before)) || nat_lt (last_call before).place next.place

-- what is wrong with row n after the rows of a service, by what its fields say
abbrev pub fault_of : ℕ → Service → Result Call CallFault → Option ServiceFault
fault_of n service (Err amiss.Number) = Some (fault.BadNumber n)
fault_of n service (Err amiss.Range) = Some (fault.OutOfRange n)
fault_of n service (Ok call) = if rises service.calls call then None else Some (fault.NotRising n)

-- what is wrong with row n after the rows of a service
abbrev pub row_fault : ℕ → Service → Fields → Option ServiceFault
row_fault n service fields = counted_fault 1000 (fault.BadRow n) fault.TooManyRows n fields (fault_of n service (call_of fields))

-- how many calls after the first have a latest time
abbrev pub latest_count : List Call → ℕ
latest_count calls = count_by (λ c. is_some c.latest) (drop 1 calls)

-- what is wrong with a service whose rows are right
abbrev pub whole_fault : Service → Option ServiceFault
whole_fault service =
    if nat_lt (length service.calls) 2 then Some fault.TooFew
    else if not (is_some (last_call service.calls).latest) then Some fault.NoFinalLatest
    else if nat_lt 64 (latest_count service.calls) then Some fault.TooManyLatest
    else None

-- the header of a service file
abbrev pub is_service_header : Fields → Bool
is_service_header fields = has_fields fields (codes "place") (codes "name") (codes "dwell") (codes "latest")

-- what a text says
abbrev pub service_of : List ℕ → Result Service ServiceFault
service_of text = rows_in is_service_header fault.BadHeader (below_header service_from row_fault whole_fault) (rows_of text)
