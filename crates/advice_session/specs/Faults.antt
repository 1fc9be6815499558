-- When an event is refused: for each kind the first of its tests that fails.
use Rattle.std.specs.Prelude.{ℕ, ◌==◌, ◌&&◌, ◌||◌, ◌≡◌, Bool, not, List, Option, Some, None, Result, Ok, Err, if◌then◌else◌, nat_le, nat_lt, is_none, is_some, length}
use Rattle.std.specs.List.{position, position_or_len}
use Rattle.std.specs.Str.{bytes_eq}
use Rattle.rail_specs.specs.Rules.{Rules, is_stop}
use Rattle.line_file.specs.declared.line.Line.{Line}
use Rattle.line_file.specs.declared.calls.Call.{Call}
use Rattle.line_file.specs.LineText.{first_from, last_to}
use Rattle.line_file.specs.ServiceText.{latest_count}
use Rattle.line_file.specs.Shape.{call_at}
use Rattle.joined_rules.specs.Joined.{last_place}
use Rattle.event_file.specs.Names.{is_name}
use Rattle.advice_session.specs.declared.fault.SessionFault.{SessionFault}
use Rattle.advice_session.specs.declared.fault.SessionFault.TheVariants.{OutOfRange, Outside, Behind, ClockBack, StopsTooClose, NameTaken, NoSuchName, TooMany, NoMemory}
use Rattle.advice_session.specs.Data.{Data, State}

-- the answer is the refusal for this fault, or none where there is none; memory may run out
abbrev pub Answers : Result (Unit {0}) SessionFault → Option SessionFault → Type 0
Answers (Ok x) fault = fault ≡ None
Answers (Err NoMemory) fault = Unit {0}
Answers (Err e) fault = fault ≡ Some e

-- the answer is exactly that
abbrev pub exactly : Option SessionFault → Result (Unit {0}) SessionFault
exactly None = Ok tt
exactly (Some e) = Err e

-- ---- the train is at a place

-- the first point of the rules behind a place, or the number of points
abbrev pub point_behind : Rules → ℕ → ℕ
point_behind r place = position_or_len (λ p. nat_lt place p) r.places

-- the next point behind a place is a stop
abbrev pub is_stop_next : Rules → ℕ → Bool
is_stop_next r place = is_stop r (point_behind r place)

-- the train can't be there: speed or clock are out of range; the place isn't below the last call's, is behind the train, or the clock
-- goes back; or the train would stand there with a stop as the next point
abbrev pub at_fault : State → ℕ → ℕ → ℕ → Option SessionFault
at_fault s place speed clock =
    if nat_lt 12000 speed || nat_lt 172800 clock then Some OutOfRange
    else if nat_le (last_place s.data_is.service.calls) place then Some Outside
    else if nat_lt place s.data_is.setup.place then Some Behind
    else if nat_lt clock s.data_is.setup.clock then Some ClockBack
    else if speed == 0 && is_stop_next s.rules_are place then Some StopsTooClose
    else None

-- ---- a restriction stands

-- which restriction has this name
abbrev pub index_of : List (List ℕ) → List ℕ → Option ℕ
index_of names name = position (λ n. bytes_eq n name) names

-- a name, a length and a limit
abbrev pub is_restriction : List ℕ → ℕ → ℕ → ℕ → Bool
is_restriction name from to limit = is_name name && nat_lt from to && nat_le 1 limit && nat_le limit 12000

-- from one place to another lies on the line
abbrev pub is_on_line : Line → ℕ → ℕ → Bool
is_on_line line from to = nat_le (first_from line.limits) from && nat_le to (last_to line.limits)

-- it can't stand: it is none, or doesn't lie on the line, its name is taken, or 64 stand
abbrev pub restrict_fault : Data → List ℕ → ℕ → ℕ → ℕ → Option SessionFault
restrict_fault d name from to limit =
    if not (is_restriction name from to limit) then Some OutOfRange
    else if not (is_on_line d.line from to) then Some Outside
    else if is_some (index_of d.names name) then Some NameTaken
    else if nat_le 64 (length d.names) then Some TooMany
    else None

-- ---- a restriction is lifted

-- it can't be: none of this name stands
abbrev pub lift_fault : Data → List ℕ → Option SessionFault
lift_fault d name = if is_some (index_of d.names name) then None else Some NoSuchName

-- ---- a latest time is set

-- which of the calls stands at a place
abbrev pub call_at_place : List Call → ℕ → Option ℕ
call_at_place calls place = position (λ c. c.place == place) calls

-- which call stands at a place behind the train
abbrev pub call_behind : Data → ℕ → Option ℕ
call_behind d place = if nat_lt d.setup.place place then call_at_place d.service.calls place else None

-- a latest time of this call would be one too many: it has none, and 64 calls after the first have one
abbrev pub is_too_many : List Call → ℕ → Bool
is_too_many calls j = is_none (call_at calls j).latest && nat_le 64 (latest_count calls)

-- it can't be set at the place of this call, or of none
abbrev pub call_fault : List Call → Option ℕ → Option SessionFault
call_fault calls None = Some Outside
call_fault calls (Some j) = if is_too_many calls j then Some TooMany else None

-- it can't be set: it is out of range, no call stands at the place behind the train, or it is one too many
abbrev pub latest_fault : Data → ℕ → ℕ → Option SessionFault
latest_fault d place seconds = if nat_lt 172800 seconds then Some OutOfRange else call_fault d.service.calls (call_behind d place)
