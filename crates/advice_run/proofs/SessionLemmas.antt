-- Events of a session, one after another.
use Rattle.std.proofs.Common.{ℕ, zero, suc, ◌≡◌, ◌≢◌, ◌<◌, ◌≤◌, ◌+◌, ◌++◌, ◌∙◌, List, [], Option, Some, None, refl, sym, subst, ap, length, arith, inl, inr, add-one}
use Rattle.std.proofs.Math.Decide.{dec_le}
use Rattle.std.specs.Prelude.{◌-◌, Result, Ok, Err, IfOk, OnOk, OnErr}
use Rattle.rail_specs.specs.Cost.{regained_cost}
use Rattle.line_file.specs.declared.line.Line.{Line}
use Rattle.line_file.specs.declared.service.Service.{Service}
use Rattle.train_file.specs.declared.train.Train.{Train}
use Rattle.rail_specs.specs.Rules.{Rules}
use Rattle.rule_changes.specs.Advance.{CountsFirst}
use Rattle.event_file.specs.declared.event.Event.{Event}
use Rattle.event_file.specs.declared.event.Event.TheVariants.{At, Restrict, Lift, Latest, Advise}
use Rattle.advice_session.specs.declared.fault.SessionFault.{SessionFault}
use Rattle.advice_session.specs.declared.fault.SessionFault.TheVariants.{OutOfRange, Outside, Behind, ClockBack, StopsTooClose, NameTaken, NoSuchName, TooMany, NoMemory}
use Rattle.advice_session.specs.Data.{State, AreRulesOf}
use Rattle.advice_session.specs.Faults.{Answers}
use Rattle.advice_session.specs.Folds.{CountsEvent, data_after, event_fault}
use Rattle.run_parts.specs.Runs.{regeneration_of}
use Rattle.advice_run.specs.Outcome.{IsJoinedSession}
use Rattle.advice_run.specs.Session.{AreTaken, HaveDone, IsAdvice, Makes, Prints, Starts, Takes, event_at, fault_in, outcome_line, rows_of}

-- an event that asks for advice
pub advised : (A : Rules → List ℕ → Type 0) (s : State) (e : Event) (before after printed : List ℕ) → e ≡ Advise → AreRulesOf s.data_is s.rules_are
    → A s.rules_are printed → after ≡ before ++ printed → Takes A s e s before after
advised A s e before after printed is rules h says =
    subst (λ (x : Event). Takes A s x s before after) (sym is) (record { makes = (refl, rules); printed = printed; prints = h; appended = says })

-- what any other event prints
prints_outcome : (A : Rules → List ℕ → Type 0) (s : State) (e : Event) (text : List ℕ) → (e ≡ Advise → ⊥) → text ≡ outcome_line (event_fault s e) → Prints A s e text
prints_outcome A s (At place speed clock) text other says = says
prints_outcome A s (Restrict name from to limit) text other says = says
prints_outcome A s (Lift name) text other says = says
prints_outcome A s (Latest place seconds) text other says = says
prints_outcome A s Advise text other says = absurd (other refl)

-- the fault that an answer names
names : (f : SessionFault) (fault : Option SessionFault) → (f ≡ NoMemory → ⊥) → Answers (Err f) fault → fault ≡ Some f
names OutOfRange fault sound h = h
names Outside fault sound h = h
names Behind fault sound h = h
names ClockBack fault sound h = h
names StopsTooClose fault sound h = h
names NameTaken fault sound h = h
names NoSuchName fault sound h = h
names TooMany fault sound h = h
names NoMemory fault sound h = absurd (sound refl)

-- the fault of an outcome is that of the event
pub is_fault : (r : Result (Unit {0}) SessionFault) (fault : Option SessionFault) → (r ≡ Err NoMemory → ⊥) → Answers r fault → fault ≡ fault_in r
is_fault (Ok x) fault sound h = h
is_fault (Err f) fault sound h = names f fault (λ is. sound (ap (λ (x : SessionFault). Err x) is)) h

-- what an event makes
makes : (s t : State) (e : Event) (r : Result (Unit {0}) SessionFault) → OnOk r (t.data_is ≡ data_after s.data_is e) → OnErr r (t ≡ s)
    → AreRulesOf t.data_is t.rules_are → Makes (fault_in r) s e t
makes s t e (Ok x) changed kept rules = (changed, rules)
makes s t e (Err f) changed kept rules = kept

-- an event that asks for no advice
pub applied : (A : Rules → List ℕ → Type 0) (s t : State) (e : Event) (before after : List ℕ) (r : Result (Unit {0}) SessionFault) → (e ≡ Advise → ⊥)
    → (r ≡ Err NoMemory → ⊥) → Answers r (event_fault s e) → OnOk r (t.data_is ≡ data_after s.data_is e) → OnErr r (t ≡ s)
    → AreRulesOf t.data_is t.rules_are → after ≡ before ++ outcome_line (fault_in r) → Takes A s e t before after
applied A s t e before after r other sound answer changed kept rules says =
    let is : event_fault s e ≡ fault_in r = is_fault r (event_fault s e) sound answer in
    record {
      makes = subst (λ (x : Option SessionFault). Makes x s e t) (sym is) (makes s t e r changed kept rules);
      printed = outcome_line (fault_in r);
      prints = prints_outcome A s e (outcome_line (fault_in r)) other (ap outcome_line (sym is));
      appended = says;
    }

-- a counter of first rows rises by at most one
first_rises : (places : List ℕ) (place old new : ℕ) → CountsFirst places place old new → new ≤ old + 1
first_rises places place old new h = elim (dec_le new (old + 1)) [
  | yes most ↦ most
  | no more ↦ absurd (more (omega (arith, h.made (λ there. more (omega (arith, h.kept there))))))
]

-- the counter rises by no more than the event's rows
pub rises : (s : State) (e : Event) (r : Result (Unit {0}) SessionFault) (old new : ℕ) → (r ≡ Err NoMemory → ⊥) → Answers r (event_fault s e)
    → CountsEvent r s e old new → new ≤ old + rows_of (event_fault s e) e
rises s e r old new sound answer h =
    subst (λ (x : Option SessionFault). new ≤ old + rows_of x e) (sym (is_fault r (event_fault s e) sound answer)) (by e r h)
  where
    by : (e : Event) (r : Result (Unit {0}) SessionFault) → CountsEvent r s e old new → new ≤ old + rows_of (fault_in r) e
    by (At place speed clock) (Ok x) h = first_rises s.rules_are.places place old new h
    by (At place speed clock) (Err f) h = omega (arith, h)
    by (Restrict name from to limit) (Ok x) h = omega (arith, h)
    by (Restrict name from to limit) (Err f) h = omega (arith, h)
    by (Lift name) (Ok x) h = omega (arith, h)
    by (Lift name) (Err f) h = omega (arith, h)
    by (Latest place seconds) (Ok x) h = omega (arith, h)
    by (Latest place seconds) (Err f) h = omega (arith, h)
    by Advise (Ok x) h = omega (arith, h)
    by Advise (Err f) h = omega (arith, h)

-- no event yet
pub none_taken : (A : Rules → List ℕ → Type 0) (s : State) (events : List Event) (old : ℕ) → AreTaken A s events 0 s [] old old
none_taken A s events old = record { rows = 0; done = (refl, (refl, refl)); most = omega arith }

-- one event more
pub one_more : (A : Rules → List ℕ → Type 0) (s : State) (events : List Event) (k : ℕ) (u t : State) (text text' : List ℕ) (old mid new : ℕ) (e : Event)
    → event_at events k ≡ e → AreTaken A s events k u text old mid → Takes A u e t text text' → new ≤ mid + rows_of (event_fault u e) e
    → AreTaken A s events (k + 1) t text' old new
one_more A s events k u t text text' old mid new e is so takes most =
    let rows = rows_of (event_fault u e) e in
    let here : Takes A u (event_at events k) t text text' = subst (λ (x : Event). Takes A u x t text text') (sym is) takes in
    let count : so.rows + rows ≡ so.rows + rows_of (event_fault u (event_at events k)) (event_at events k) =
    ap (λ (x : Event). so.rows + rows_of (event_fault u x) x) (sym is) in
    let done : HaveDone A s events (suc k) t (so.rows + rows) text' = (u, (so.rows, (text, (so.done, (here, count))))) in
    record {
      rows = so.rows + rows;
      done = subst (λ (n : ℕ). HaveDone A s events n t (so.rows + rows) text') (sym (add-one k)) done;
      most = omega (arith, so.most, most);
    }

-- two facts of a result that is fine, taken together
pub both_ok : {A E : Type 0} (r : Result A E) (P Q R : Type 0) → (P → Q → R) → OnOk r P → OnOk r Q → OnOk r R
both_ok (Ok a) P Q R f p q = f p q
both_ok (Err e) P Q R f p q = tt

-- the answer to events, where the files counted no step
pub joined_taken : (line : Line) (train : Train) (service : Service) (events : List Event) (step splits tolerance old mid new status : ℕ) (text : List ℕ)
    → mid ≡ old + (0 + (0 + (0 + (0 + 0))))
    → IsJoinedSession line train service events step splits tolerance (new - mid) status text
    → IsJoinedSession line train service events step splits tolerance (new - old) status text
joined_taken line train service events step splits tolerance old mid new status text e h =
    let same : mid ≡ old = omega (arith, e) in
    subst (λ (x : ℕ). IsJoinedSession line train service events step splits tolerance (new - x) status text) same h

-- a session that was read to its end
pub session_answered : (line : Line) (train : Train) (service : Service) (events : List Event) (step splits tolerance old mid new : ℕ) (s t : State) (text : List ℕ)
    → Starts line train service step s → mid ≡ old + length s.rules_are.steps
    → AreTaken (IsAdvice (regained_cost train.regeneration) splits tolerance (regeneration_of train)) s events (length events) t text mid new
    → IsJoinedSession line train service events step splits tolerance (new - old) 0 text
session_answered line train service events step splits tolerance old mid new s t text starts count taken =
    inr (s, (starts, record { ends = refl; last = t; rows = taken.rows; done = taken.done; few = omega (arith, count, taken.most) }))
