-- Calls of which one has another latest time: they are alike in all else.
use Rattle.std.proofs.Common.{ℕ, zero, suc, ◌≡◌, ◌≢◌, ◌<◌, ◌≤◌, ◌∙◌, Bool, List, [], ◌∷◌, length, get_or, Some, refl, ap, sym, subst, inl, inr, get_or-set_other, get_or-set_same, length-set}
use Rattle.std.specs.Prelude.{map, slice_set}
use Rattle.std.proofs.lemmas.Bool.{cases_eq}
use Rattle.line_file.specs.declared.calls.Call.{Call}
use Rattle.line_file.specs.declared.line.Line.{Line}
use Rattle.line_file.specs.Shape.{call_at}
use Rattle.joined_rules.specs.Joined.{ForNone, HasStop, IsOutside, IsPointOf, IsTooClose, dwell_of, is_stop_call}
use Rattle.rule_changes.specs.Latest.{with_latest_call}

-- the same calls but for their latest times
pub record Alike (a b : List Call) : Type 0 where
  pub count : length b ≡ length a
  pub place : (i : ℕ) → (call_at b i).place ≡ (call_at a i).place
  pub dwell : (i : ℕ) → (call_at b i).dwell ≡ (call_at a i).dwell

-- the call of the index itself, and each other one
pub set_there : (calls : List Call) (j seconds : ℕ) → j < length calls → call_at (with_latest_call calls j seconds) j ≡ record (call_at calls j) { latest = Some seconds }
set_there calls j seconds l = rw get_or-set_same refl

pub set_other : (calls : List Call) (j seconds i : ℕ) → i ≢ j → call_at (with_latest_call calls j seconds) i ≡ call_at calls i
set_other calls j seconds i ne = rw get_or-set_other refl

pub alike : (calls : List Call) (j seconds : ℕ) → j < length calls → Alike calls (with_latest_call calls j seconds)
alike calls j seconds l = record {
  count = length-set calls j _;
  place = λ i. elim (cases_eq i j) [
    | inl e ↦ subst (λ (k : ℕ). (call_at (with_latest_call calls j seconds) k).place ≡ (call_at calls k).place) (sym e) (ap (λ (c : Call). c.place) (set_there calls j seconds l))
    | inr ne ↦ ap (λ (c : Call). c.place) (set_other calls j seconds i ne)
  ];
  dwell = λ i. elim (cases_eq i j) [
    | inl e ↦ subst (λ (k : ℕ). (call_at (with_latest_call calls j seconds) k).dwell ≡ (call_at calls k).dwell) (sym e) (ap (λ (c : Call). c.dwell) (set_there calls j seconds l))
    | inr ne ↦ ap (λ (c : Call). c.dwell) (set_other calls j seconds i ne)
  ];
}

pub same_stop : (a b : List Call) (i : ℕ) → Alike a b → is_stop_call b i ≡ is_stop_call a i
same_stop a b i h = rw (h.count, h.dwell i) refl

pub same_dwell : (a b : List Call) (i : ℕ) → Alike a b → dwell_of b i ≡ dwell_of a i
same_dwell a b i h = rw (h.count, h.dwell i) refl

-- the places of the calls, as a list
pub same_places : (calls : List Call) (j : ℕ) (c : Call) → c.place ≡ (call_at calls j).place → map (λ x. x.place) (slice_set calls j c) ≡ map (λ x. x.place) calls
same_places [] j c e = refl
same_places (x ∷ xs) zero c e = ap (λ (p : ℕ). p ∷ map (λ y. y.place) xs) e
same_places (x ∷ xs) (suc j) c e = ap (λ (ps : List ℕ). x.place ∷ ps) (same_places xs j c e)

pub same_on_line : (line : Line) (a b : List Call) → Alike a b → ForNone (IsOutside line a) (length a) → ForNone (IsOutside line b) (length b)
same_on_line line a b h none i l out = none i (subst (λ (n : ℕ). i < n) h.count l) (rw (h.place i) at out)

stop_before : (a b : List Call) (p : ℕ) → Alike a b → HasStop b p → HasStop a p
stop_before a b p h (i, l, e, stop) = (i, subst (λ (n : ℕ). i < n) h.count l, sym (h.place i) ∙ e, sym (same_stop a b i h) ∙ stop)

pub same_apart : (a b : List Call) (speed : ℕ) (places : List ℕ) → Alike a b → ForNone (IsTooClose a speed places) (length a) → ForNone (IsTooClose b speed places) (length b)
same_apart a b speed places h none i l (stop, k, there, e, close) =
    none i (subst (λ (n : ℕ). i < n) h.count l) (
      sym (same_stop a b i h) ∙ stop,
      k,
      there,
      e ∙ h.place i,
      elim close [ inl start ↦ inl start | inr (after, other) ↦ inr (after, stop_before a b (get_or places k 0) h other) ],
    )

pub same_point : (a b : List Call) (places : List ℕ) (k : ℕ) (stop : Bool) (dwell : ℕ) → Alike a b → IsPointOf a places k stop dwell → IsPointOf b places k stop dwell
same_point a b places k stop dwell h p = record {
  at = p.at;
  call = record {
    call = λ l. let c = p.call.call (subst (λ (n : ℕ). p.at < n) h.count l) in (c.0, h.place p.at ∙ c.1);
    none = λ past after i l e. p.call.none (subst (λ (n : ℕ). n ≤ p.at) h.count past) after i (subst (λ (n : ℕ). i < n) h.count l) (sym (h.place i) ∙ e);
    index = subst (λ (n : ℕ). p.at ≤ n) (sym h.count) p.call.index;
  };
  stop_is = p.stop_is ∙ sym (same_stop a b p.at h);
  dwell_is = p.dwell_is ∙ sym (same_dwell a b p.at h);
}
