-- The answer to a session: what its events print, one after another.
use Rattle.std.specs.Prelude.{ℕ, ◌+◌, ◌≡◌, ◌≤◌, ◌++◌, ℤ, pos, List, [], Option, Some, None, ⊤, codes, length, slice_index_or, zero, suc, Result, Ok, Err}
use Rattle.rail_specs.specs.Rules.{Rules}
use Rattle.rail_base.specs.Texts.{line, spaced}
use Rattle.edge_io.specs.Faults.{Told}
use Rattle.line_file.specs.declared.line.Line.{Line}
use Rattle.line_file.specs.declared.service.Service.{Service}
use Rattle.train_file.specs.declared.train.Train.{Train}
use Rattle.command_files.specs.Files.{Kind, Says, first_ends}
use Rattle.plan_files.specs.Kinds.{line_kind, most_bytes, service_kind, train_kind}
use Rattle.event_file.specs.declared.event.Event.{Event}
use Rattle.event_file.specs.declared.event.Event.TheVariants.{At, Restrict, Lift, Latest, Advise}
use Rattle.event_file.specs.declared.fault.EventFault.{EventFault}
use Rattle.event_file.specs.declared.fault.EventFault.TheVariants as text_fault
use Rattle.event_file.specs.Events.{events_of}
use Rattle.advice_session.specs.declared.fault.SessionFault.{SessionFault}
use Rattle.advice_session.specs.declared.fault.SessionFault.TheVariants as fault
use Rattle.advice_session.specs.Data.{State, AreRulesOf, started}
use Rattle.advice_session.specs.Folds.{data_after, event_fault}
use Rattle.advice_run.specs.Plan.{IsPlanAnswer}

-- ---- the files

-- the words of a fault of the events
abbrev pub event_fault_words : EventFault → List ℕ
event_fault_words (text_fault.Form n) = codes "form" ++ spaced (pos n)
event_fault_words (text_fault.TooManyEvents n) = codes "too-many-events" ++ spaced (pos n)
event_fault_words (text_fault.TooManyAdvises n) = codes "too-many-advises" ++ spaced (pos n)
event_fault_words text_fault.NoMemory = []

-- the events of a session
abbrev pub events_kind : Kind (List Event) EventFault
events_kind = record { role = codes "events"; most = most_bytes; read = events_of; words = event_fault_words }

-- a run may end at one of the files of a line, a train, a service and events, read in this order
abbrev pub SessionEnds : List ℕ → List ℕ → List ℕ → List ℕ → (List ℕ → Told) → (List ℕ → ℕ) → (List ℕ → ℕ) → ℕ → List ℕ → Type 0
SessionEnds line train service events told before now =
    first_ends line_kind line told before now
    (first_ends train_kind train told before now
    (first_ends service_kind service told before now (first_ends events_kind events told before now (λ _ _. ⊥))))

-- what these files may say
abbrev pub SessionSays : List ℕ → List ℕ → List ℕ → List ℕ → (List ℕ → Told) → Line × (Train × (Service × (List Event × ⊤))) → Type 0
SessionSays line train service events told said =
    Says line_kind line told said.0
    × (Says train_kind train told said.1.0
    × (Says service_kind service told said.1.1.0 × (Says events_kind events told said.1.1.1.0 × ⊤)))

-- ---- the answer

-- the word for why an event is refused
abbrev pub refusal_word : SessionFault → List ℕ
refusal_word fault.OutOfRange = codes "out-of-range"
refusal_word fault.Outside = codes "outside"
refusal_word fault.Behind = codes "behind"
refusal_word fault.ClockBack = codes "clock-back"
refusal_word fault.StopsTooClose = codes "stops-too-close"
refusal_word fault.NameTaken = codes "name-taken"
refusal_word fault.NoSuchName = codes "no-such-name"
refusal_word fault.TooMany = codes "too-many"
refusal_word fault.NoMemory = []

-- the line of an event that is refused for this fault, or accepted where there is none
abbrev pub outcome_line : Option SessionFault → List ℕ
outcome_line None = line (codes "ok")
outcome_line (Some e) = line (codes "refused " ++ refusal_word e)

-- how many rows of steps an event makes at most: an accepted place of the train one, anything else none
abbrev pub rows_of : Option SessionFault → Event → ℕ
rows_of None (At place speed clock) = 1
rows_of None (Restrict name from to limit) = 0
rows_of None (Lift name) = 0
rows_of None (Latest place seconds) = 0
rows_of None Advise = 0
rows_of (Some e) event = 0

-- what an event prints of a session in this state: advice is a text for its rules; of anything else whether it is accepted
abbrev pub Prints : (Rules → List ℕ → Type 0) → State → Event → List ℕ → Type 0
Prints Advises s (At place speed clock) text = text ≡ outcome_line (event_fault s (At place speed clock))
Prints Advises s (Restrict name from to limit) text = text ≡ outcome_line (event_fault s (Restrict name from to limit))
Prints Advises s (Lift name) text = text ≡ outcome_line (event_fault s (Lift name))
Prints Advises s (Latest place seconds) text = text ≡ outcome_line (event_fault s (Latest place seconds))
Prints Advises s Advise text = Advises s.rules_are text

-- an event makes one state of another: where it isn't refused, it changes the data as it says, and the rules are those of the data; a refused
-- event changes nothing
abbrev pub Makes : Option SessionFault → State → Event → State → Type 0
Makes None s e t = (t.data_is ≡ data_after s.data_is e) × AreRulesOf t.data_is t.rules_are
Makes (Some fault) s e t = t ≡ s

-- a session takes an event, which makes one state of another, and what it prints is appended to a text
pub record Takes (Advises : Rules → List ℕ → Type 0) (s : State) (e : Event) (t : State) (before after : List ℕ) : Type 0 where
  pub makes : Makes (event_fault s e) s e t
  pub printed : List ℕ
  pub prints : Prints Advises s e printed
  pub appended : after ≡ before ++ printed

-- the event of an index
abbrev pub event_at : List Event → ℕ → Event
event_at events k = slice_index_or events k Advise

-- the first so many events make one state of another, make so many rows of steps at most, and print this text
abbrev pub HaveDone : (Rules → List ℕ → Type 0) → State → List Event → ℕ → State → ℕ → List ℕ → Type 0
HaveDone Advises s events zero t rows text = (t ≡ s) × ((rows ≡ 0) × (text ≡ []))
HaveDone Advises s events (suc k) t rows text =
    (u : State) × ((before : ℕ) × ((front : List ℕ) × (HaveDone Advises s events k u before front
    × (Takes Advises u (event_at events k) t front text × (rows ≡ before + rows_of (event_fault u (event_at events k)) (event_at events k))))))

-- the same, where a counter of rows rose by no more than so many
pub record AreTaken (Advises : Rules → List ℕ → Type 0) (s : State) (events : List Event) (k : ℕ) (t : State) (text : List ℕ) (old new : ℕ) : Type 0 where
  pub rows : ℕ
  pub done : HaveDone Advises s events k t rows text
  pub most : new ≤ old + rows

-- a plan text for rules at this cost of work, with so many splits, at this tolerance, whatever its status
abbrev pub IsAdvice : (ℤ → ℤ) → ℕ → ℕ → Option ℕ → Rules → List ℕ → Type 0
IsAdvice cost splits tolerance regeneration r text = (status : ℕ) × IsPlanAnswer cost r splits tolerance regeneration status text

-- the answer to events from a state on, where so many rows of steps were made: status 0, with what the events print, one after another. The
-- rows are at most those of the state's rules, and one for each accepted place of the train
pub record IsSessionAnswer (Advises : Rules → List ℕ → Type 0) (s : State) (events : List Event) (counted status : ℕ) (text : List ℕ) : Type 0 where
  pub ends : status ≡ 0
  pub last : State
  pub rows : ℕ
  pub done : HaveDone Advises s events (length events) last rows text
  pub few : counted ≤ length s.rules_are.steps + rows

-- a session starts in this state: over a line, a train and a service, with a grid of this step
abbrev pub Starts : Line → Train → Service → ℕ → State → Type 0
Starts line train service step s = (s.data_is ≡ started line train service step) × AreRulesOf s.data_is s.rules_are

-- the fault of an outcome, where it has one
abbrev pub fault_in : Result (Unit {0}) SessionFault → Option SessionFault
fault_in (Ok x) = None
fault_in (Err e) = Some e
