-- How the lines of a text are read as events, one by one.
use Rattle.std.proofs.Common.{ℕ, ◌≡◌, ◌≤◌, ◌+◌, false, List, [], ◌∷◌, ◌++◌, Some, None, refl, inl, inr, sym, ◌∙◌, append_assoc}
use Rattle.std.specs.Prelude.{codes}
use Rattle.std.specs.Str.{bytes_eq}
use Rattle.std.proofs.lemmas.Bool.{cases_lt, lt-ltb}
use Rattle.event_file.specs.declared.event.Event.{Event}
use Rattle.event_file.specs.declared.fault.EventFault.{EventFault}
use Rattle.event_file.specs.Events.{event_fault, event_on, events_on, advises_with, line_faults}
use Rattle.rail_base.specs.First.{first_in}

-- an event without a fault is one of the first 1,000
pub few : (n advises : ℕ) (e : Event) → event_fault n advises (Some e) ≡ None → n ≤ 1000
few n advises e h = elim (cases_lt 1000 n) [
  | inl more ↦ absurd (cc (rw (lt-ltb 1000 n more) at h))
  | inr less ↦ less
]

-- a line before the end that is an event without a fault
pub faults_after : (n advises : ℕ) (line : List ℕ) (ls : List (List ℕ)) (e : Event) → bytes_eq line (codes "end") ≡ false → event_on line ≡ Some e →
    event_fault n advises (Some e) ≡ None → first_in (line_faults n advises (line ∷ ls)) ≡ first_in (line_faults (n + 1) (advises_with advises (Some e)) ls)
faults_after n advises line ls e other on none = rw (other, on, none) refl

-- a line before the end that has a fault
pub fault_at : (n advises : ℕ) (line : List ℕ) (ls : List (List ℕ)) (f : EventFault) → bytes_eq line (codes "end") ≡ false →
    event_fault n advises (event_on line) ≡ Some f → first_in (line_faults n advises (line ∷ ls)) ≡ Some f
fault_at n advises line ls f other fault = rw (other, fault) refl

-- the events up to a line that is one
pub events_after : (all ls : List (List ℕ)) (events : List Event) (line : List ℕ) (e : Event) → events_on all ≡ events ++ events_on (line ∷ ls) → event_on line ≡ Some e →
    events_on all ≡ (events ++ e ∷ []) ++ events_on ls
events_after all ls events line e h on = h ∙ rw on (sym (append_assoc events (e ∷ []) (events_on ls)))
