-- What the text of a session's events means: its events, or the first line that is refused.
use Rattle.std.specs.Prelude.{ℕ, ◌+◌, ◌==◌, ◌&&◌, ◌≡◌, Bool, true, false, List, [], ◌∷◌, Option, Some, None, Result, Ok, Err, if◌then◌else◌, nat_le, nat_lt, length, drop, slice_index, codes, filter_map}
use Rattle.std.specs.Str.{bytes_eq}
use Rattle.std.specs.Str.Lines.{lines}
use Rattle.event_file.specs.declared.event.Event.{Event}
use Rattle.event_file.specs.declared.event.Event.TheVariants.{At, Restrict, Lift, Latest, Advise}
use Rattle.event_file.specs.declared.fault.EventFault.{EventFault}
use Rattle.event_file.specs.declared.fault.EventFault.TheVariants.{Form, TooManyEvents, TooManyAdvises, NoMemory}
use Rattle.event_file.specs.Names.{is_name}
use Rattle.rail_base.specs.First.{first_in}
use Rattle.rail_base.specs.Lines.{fields_of}
use Rattle.rail_base.specs.Numbers.{count_number}

-- ---- the event on a line

-- a first number and the numbers after it, where each is one
abbrev pub put_count : Option ℕ → Option (List ℕ) → Option (List ℕ)
put_count None rest = None
put_count (Some n) None = None
put_count (Some n) (Some ns) = Some (n ∷ ns)

-- the numbers that fields are, where each of them is one of 1 to 9 digits
abbrev pub counts_of : List (List ℕ) → Option (List ℕ)
counts_of [] = Some []
counts_of (field ∷ fields) = put_count (count_number field) (counts_of fields)

-- the same of exactly so many fields
abbrev pub counts_in : ℕ → List (List ℕ) → Option (List ℕ)
counts_in count fields = if length fields == count then counts_of fields else None

-- the event of a place, a speed and a clock
abbrev pub at_of : Option (List ℕ) → Option Event
at_of None = None
at_of (Some ns) = Some (At (slice_index ns 0) (slice_index ns 1) (slice_index ns 2))

abbrev pub at_in : List (List ℕ) → Option Event
at_in fields = at_of (counts_in 3 fields)

-- the event of a place and a latest time
abbrev pub latest_of : Option (List ℕ) → Option Event
latest_of None = None
latest_of (Some ns) = Some (Latest (slice_index ns 0) (slice_index ns 1))

abbrev pub latest_in : List (List ℕ) → Option Event
latest_in fields = latest_of (counts_in 2 fields)

-- the first field, where it is a name
abbrev pub name_in : List (List ℕ) → Option (List ℕ)
name_in [] = None
name_in (field ∷ fields) = if is_name field then Some field else None

-- the event of a name, two places and a limit
abbrev pub restrict_of : Option (List ℕ) → Option (List ℕ) → Option Event
restrict_of None ns = None
restrict_of (Some name) None = None
restrict_of (Some name) (Some ns) = Some (Restrict name (slice_index ns 0) (slice_index ns 1) (slice_index ns 2))

abbrev pub restrict_in : List (List ℕ) → Option Event
restrict_in fields = restrict_of (name_in fields) (counts_in 3 (drop 1 fields))

-- the event of a name alone
abbrev pub lift_of : Option (List ℕ) → Option Event
lift_of None = None
lift_of (Some name) = Some (Lift name)

abbrev pub lift_in : List (List ℕ) → Option Event
lift_in fields = if length fields == 1 then lift_of (name_in fields) else None

-- the event of a word and the fields behind it; advice is asked for by a word alone
abbrev pub event_in : List (List ℕ) → Option Event
event_in [] = None
event_in (word ∷ fields) =
    if bytes_eq word (codes "at") then at_in fields
    else if bytes_eq word (codes "restrict") then restrict_in fields
    else if bytes_eq word (codes "lift") then lift_in fields
    else if bytes_eq word (codes "latest") then latest_in fields
    else if bytes_eq word (codes "advise") && length fields == 0 then Some Advise
    else None

-- the event that a line says, where it is of the form of one: a word and fields, parted by one space each
abbrev pub event_on : List ℕ → Option Event
event_on line = event_in (fields_of line)

-- ---- the lines of a text, by their numbers from 1

-- an event asks for advice
abbrev pub is_advise : Event → Bool
is_advise Advise = true
is_advise e = false

-- the fault of line n, which says this event or none, behind so many lines that ask for advice: it is no event, one event too many, or
-- asks for advice once too often
abbrev pub event_fault : ℕ → ℕ → Option Event → Option EventFault
event_fault n advises None = Some (Form n)
event_fault n advises (Some e) =
    if nat_lt 1000 n then Some (TooManyEvents n)
    else if is_advise e && nat_le 64 advises then Some (TooManyAdvises n)
    else None

-- how many lines ask for advice, up to this event
abbrev pub advises_with : ℕ → Option Event → ℕ
advises_with advises None = advises
advises_with advises (Some e) = if is_advise e then advises + 1 else advises

-- the faults of the lines from line n on, where they stand behind the end: no line does
abbrev pub behind_faults : ℕ → List (List ℕ) → List (Option EventFault)
behind_faults n [] = []
behind_faults n (line ∷ ls) = Some (Form n) ∷ []

-- the faults of the lines from line n on, behind so many that ask for advice: they are events, and then the end; where that is missing,
-- the line after the last isn't of its form
abbrev pub line_faults : ℕ → ℕ → List (List ℕ) → List (Option EventFault)
line_faults n advises [] = Some (Form n) ∷ []
line_faults n advises (line ∷ ls) =
    if bytes_eq line (codes "end") then behind_faults (n + 1) ls
    else event_fault n advises (event_on line) ∷ line_faults (n + 1) (advises_with advises (event_on line)) ls

-- ---- the text

-- the events on lines
abbrev pub events_on : List (List ℕ) → List Event
events_on ls = filter_map event_on ls

-- a value, or the fault that stands before it
abbrev pub unless : {X : Type 0} → Option EventFault → X → Result X EventFault
unless None x = Ok x
unless (Some fault) x = Err fault

-- what the text of events says, or the fault of its first line that has one
abbrev pub events_of : List ℕ → Result (List Event) EventFault
events_of text = unless (first_in (line_faults 1 0 (lines text))) (events_on (lines text))

-- line n says this event and has no fault, or is refused for its fault; memory may run out
abbrev pub AnswersLine : Result Event EventFault → ℕ → ℕ → List ℕ → Type 0
AnswersLine (Ok e) n advises line = (event_on line ≡ Some e) × (event_fault n advises (Some e) ≡ None)
AnswersLine (Err NoMemory) n advises line = Unit {0}
AnswersLine (Err e) n advises line = event_fault n advises (event_on line) ≡ Some e
