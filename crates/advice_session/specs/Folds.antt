-- What an event is to a session: why it is refused, what it makes of the data, and how many rows it makes.
use Rattle.std.specs.Prelude.{ℕ, ◌≡◌, Option, None, Result, Ok}
use Rattle.event_file.specs.declared.event.Event.{Event}
use Rattle.event_file.specs.declared.event.Event.TheVariants.{At, Restrict, Lift, Latest, Advise}
use Rattle.rule_changes.specs.Advance.{CountsFirst}
use Rattle.advice_session.specs.declared.fault.SessionFault.{SessionFault}
use Rattle.advice_session.specs.Data.{Data, State, lifted_at, moved, restricted, timed_at}
use Rattle.advice_session.specs.Faults.{at_fault, call_behind, index_of, latest_fault, lift_fault, restrict_fault}

-- why an event is refused, or none; advice is never refused
abbrev pub event_fault : State → Event → Option SessionFault
event_fault s (At place speed clock) = at_fault s place speed clock
event_fault s (Restrict name from to limit) = restrict_fault s.data_is name from to limit
event_fault s (Lift name) = lift_fault s.data_is name
event_fault s (Latest place seconds) = latest_fault s.data_is place seconds
event_fault s Advise = None

-- the data after an accepted event
abbrev pub data_after : Data → Event → Data
data_after d (At place speed clock) = moved d place speed clock
data_after d (Restrict name from to limit) = restricted d name (record { from = from; to = to; limit = limit })
data_after d (Lift name) = lifted_at d (index_of d.names name)
data_after d (Latest place seconds) = timed_at d (call_behind d place) seconds
data_after d Advise = d

-- a row is made, and counted, where the train comes to a place that isn't one of the grid's, and nowhere else
abbrev pub CountsEvent : Result (Unit {0}) SessionFault → State → Event → ℕ → ℕ → Type 0
CountsEvent (Ok x) s (At place speed clock) old new = CountsFirst s.rules_are.places place old new
CountsEvent r s e old new = new ≡ old
