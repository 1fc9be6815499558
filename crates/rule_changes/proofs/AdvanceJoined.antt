-- Joined rules that have come further are the joined rules from there on.
use Rattle.std.proofs.Common.{ℕ, ℤ, ◌≡◌, ◌<◌, ◌≤◌, ◌+◌, ◌-◌, ◌∙◌, ◌==◌, List, Bool, true, false, Option, Some, None, ◌∷◌, drop, length, get_or, subst, sym, ap, arith, inl, inr, refl, ◌-ℤ◌}
use Rattle.std.specs.Prelude.{Contains, IfSome}
use Rattle.std.specs.Int.RustNames.{unsigned_abs}
use Rattle.std.proofs.Math.Nat.{mul-le-mul_left}
use Rattle.std.proofs.lemmas.Int.{ints}
use Rattle.std.proofs.lemmas.Bool.{cases_lt, cases_eq, ne_eqb, true≢false}
use Rattle.std.proofs.lemmas.List.{get_or_default, get_or_past}
use Rattle.std.proofs.lemmas.List.Elements.{All-get_or}
use Rattle.rail_specs.specs.declared.StepNumbers.{StepNumbers}
use Rattle.rail_specs.specs.declared.Timing.{Timing}
use Rattle.rail_specs.specs.Grid.{IsGrid, IsPlace}
use Rattle.rail_specs.specs.Rules.{Rules, is_stop, step_at, no_timing}
use Rattle.line_file.specs.declared.calls.Call.{Call}
use Rattle.line_file.specs.declared.sections.Section.{Section}
use Rattle.line_file.specs.declared.line.Line.{Line}
use Rattle.line_file.specs.ServiceText.{no_call}
use Rattle.line_file.specs.Shape.{call_at}
use Rattle.train_file.specs.declared.train.Train.{Train}
use Rattle.joined_rules.specs.declared.setup.Stretch.{Stretch}
use Rattle.joined_rules.specs.Joined.{IsStepOf, IsPointOf, IsLatest, IsLeastLimit, IsTimingOf, AreTimings, IsTooClose, IsTooGreat, ForNone, HasStop, is_stop_call, dwell_of, marks_of, last_place}
use Rattle.joined_rules.proofs.JoinedGrid.{index_of, first_is, last_is}
use Rattle.joined_rules.proofs.JoinedRising.{places_order, places_not_above}
use Rattle.joined_rules.proofs.JoinedStops.{call_stop}
use Rattle.rule_parts.specs.Shaped.{IsShaped}
use Rattle.rule_changes.specs.Advance.{IsAdvanced, IsLastAt, IsNoStopNext, IsLater, GoesOnJoined, shortened, timing_from}
use Rattle.rule_changes.specs.Limits.{HasLeastLimits, IsLimited}
use Rattle.rule_changes.proofs.AdvanceLists.{same_at, left_first, left_later, timed_count, timed_at}
use Rattle.rule_changes.proofs.AdvanceShaped.{ComesFrom, comes_from}

-- ---- the grid

-- what the grid from a later place is made of
record IsGridFrom (marks : List ℕ) (step from to place k : ℕ) (old new : List ℕ) : Type 0 where
  grid : IsGrid marks step from to old
  span : from < to
  begun : from ≤ place
  ends : place < to
  last : IsLastAt old place k
  new_is : new ≡ place ∷ drop (k + 1) old
  count : length new + k ≡ length old

above : (marks : List ℕ) (step from to place k : ℕ) (old new : List ℕ) → IsGridFrom marks step from to place k old new → (i : ℕ) → 1 ≤ i → k + i < length old → place < get_or old (k + i) 0
above marks step from to place k old new h i m l = omega (arith, h.last.below, places_not_above old h.grid.rises (k + 1) (k + i) (omega (arith, m)) l)

grid_rises : (marks : List ℕ) (step from to place k : ℕ) (old new : List ℕ) → IsGridFrom marks step from to place k old new → (i : ℕ) → i + 1 < length new → get_or new i 0 < get_or new (i + 1) 0
grid_rises marks step from to place k old new h i l =
    let next : get_or new (i + 1) 0 ≡ get_or old (k + i + 1) 0 = left_later place k old new (i + 1) 0 h.new_is (omega arith) ∙ same_at old (k + (i + 1)) (k + i + 1) 0 (omega arith) in
    elim (cases_eq i 0) [
      | inl e ↦ (let first : get_or new i 0 ≡ place = same_at new i 0 0 e ∙ left_first place k old new 0 h.new_is in
          let second : get_or old (k + i + 1) 0 ≡ get_or old (k + 1) 0 = same_at old (k + i + 1) (k + 1) 0 (omega (arith, e)) in
          omega (arith, first, next, second, h.last.below))
      | inr ne ↦ (let here : get_or new i 0 ≡ get_or old (k + i) 0 = left_later place k old new i 0 h.new_is (omega (arith, ne)) in
          omega (arith, here, next, h.grid.rises (k + i) (omega (arith, l, h.count))))
    ]

grid_place : (marks : List ℕ) (step from to place k : ℕ) (old new : List ℕ) → IsGridFrom marks step from to place k old new → (p : ℕ) → Contains new p → IsPlace marks step place to p
grid_place marks step from to place k old new h p (i, l, e) = elim (cases_eq i 0) [
  | inl z ↦ inl (sym e ∙ same_at new i 0 p z ∙ left_first place k old new p h.new_is)
  | inr ne ↦ (let m : 1 ≤ i = omega (arith, ne) in
      let there : k + i < length old = omega (arith, l, h.count) in
      let at : get_or old (k + i) p ≡ p = sym (left_later place k old new i p h.new_is m) ∙ e in
      let high : place < p = omega (arith, above marks step from to place k old new h i m there, get_or_default old (k + i) 0 p there, at) in
      elim ((h.grid.members p).0 (k + i, there, at)) [
        | inl b ↦ absurd (omega (arith, b, high, h.begun))
        | inr o ↦ elim o [ inl b ↦ inr (inl b) | inr b ↦ inr (inr (high, b.1, b.2)) ]
      ])
]

old_place : (marks : List ℕ) (step from to place k : ℕ) (old new : List ℕ) → IsGridFrom marks step from to place k old new → (p : ℕ) → place < p → IsPlace marks step from to p → Contains new p
old_place marks step from to place k old new h p high is =
    let c : (m : ℕ) × (m < length old) × (get_or old m 0 ≡ p) = index_of marks step from to old h.grid p is in
    let order : k < c.0 = places_order old h.grid.rises k c.0 (omega (arith, h.last.there)) (omega (arith, h.last.at, high, c.2)) in (
      c.0 - k,
      omega (arith, order, c.1, h.count),
      left_later place k old new (c.0 - k) p h.new_is (omega (arith, order)) ∙ same_at old (k + (c.0 - k)) c.0 p (omega (arith, order)) ∙ get_or_default old c.0 p 0 c.1 ∙ c.2,
    )

grid_has : (marks : List ℕ) (step from to place k : ℕ) (old new : List ℕ) → IsGridFrom marks step from to place k old new → (p : ℕ) → IsPlace marks step place to p → Contains new p
grid_has marks step from to place k old new h p is = elim is [
  | inl e ↦ (0, omega (arith, h.count, h.last.there), left_first place k old new p h.new_is ∙ sym e)
  | inr o ↦ elim o [
    | inl e ↦ old_place marks step from to place k old new h p (omega (arith, e, h.ends)) (inr (inl e))
    | inr b ↦ old_place marks step from to place k old new h p b.0 (inr (inr (omega (arith, h.begun, b.0), b.1, b.2)))
  ]
]

-- the grid from a later place is the place and the old places above it
pub grid_from : (marks : List ℕ) (step from to place k : ℕ) (old new : List ℕ) → IsGrid marks step from to old → from < to → from ≤ place → place < to → IsLastAt old place k →
    new ≡ place ∷ drop (k + 1) old → length new + k ≡ length old → IsGrid marks step place to new
grid_from marks step from to place k old new g span begun ends last e count =
    let h : IsGridFrom marks step from to place k old new = record { grid = g; span = span; begun = begun; ends = ends; last = last; new_is = e; count = count } in
    record {
      rises = grid_rises marks step from to place k old new h;
      members = λ p. (grid_place marks step from to place k old new h p, grid_has marks step from to place k old new h p);
    }

-- ---- the steps

rest_of_step : (train : Train) (gradients : List Section) (s e place : ℕ) (n : StepNumbers) → s ≤ place → place < e → IsStepOf train gradients s e n → IsStepOf train gradients place e (shortened n (e - place))
rest_of_step train gradients s e place n at below is = record {
  train_is = is.train_is;
  metres = omega (arith, below);
  gradient = let (k, l, from, to, value) = is.gradient in (k, l, omega (arith, from, at), to, value);
}

each_step : (train : Train) (gradients : List Section) (old new : Rules) (place : ℕ) (k : ℕ) → ComesFrom old place new k →
    ((i : ℕ) → i < length old.steps → IsStepOf train gradients (get_or old.places i 0) (get_or old.places (i + 1) 0) (step_at old i)) →
    (i : ℕ) → i < length new.steps → IsStepOf train gradients (get_or new.places i 0) (get_or new.places (i + 1) 0) (step_at new i)
each_step train gradients old new place k f each i l =
    let next : get_or new.places (i + 1) 0 ≡ get_or old.places (k + i + 1) 0 = f.place_later (i + 1) (omega arith) ∙ same_at old.places (k + (i + 1)) (k + i + 1) 0 (omega arith) in
    elim (cases_eq i 0) [
      | inl e ↦ (let second : get_or new.places 1 0 ≡ get_or old.places (k + 1) 0 = f.place_later 1 (omega arith) in
          subst (λ (j : ℕ). IsStepOf train gradients (get_or new.places j 0) (get_or new.places (j + 1) 0) (step_at new j)) (sym e)
          (subst (λ (n : StepNumbers). IsStepOf train gradients (get_or new.places 0 0) (get_or new.places 1 0) n) (sym f.step_first)
          (subst (λ (x : ℕ). IsStepOf train gradients x (get_or new.places 1 0) (shortened (step_at old k) (get_or old.places (k + 1) 0 - place))) (sym f.place_first)
          (subst (λ (x : ℕ). IsStepOf train gradients place x (shortened (step_at old k) (get_or old.places (k + 1) 0 - place))) (sym second)
          (rest_of_step train gradients (get_or old.places k 0) (get_or old.places (k + 1) 0) place (step_at old k) f.at f.below (each k f.inside))))))
      | inr ne ↦ (let m : 1 ≤ i = omega (arith, ne) in
          subst (λ (n : StepNumbers). IsStepOf train gradients (get_or new.places i 0) (get_or new.places (i + 1) 0) n) (sym (f.step_later i m))
          (subst (λ (x : ℕ). IsStepOf train gradients x (get_or new.places (i + 1) 0) (step_at old (k + i))) (sym (f.place_later i m))
          (subst (λ (x : ℕ). IsStepOf train gradients (get_or old.places (k + i) 0) x (step_at old (k + i))) (sym next)
          (each (k + i) (omega (arith, l, f.step_count))))))
    ]

-- ---- the points

-- no call stands at the first point
first_point : (calls : List Call) (places : List ℕ) (stop : Bool) (dwell : ℕ) → stop ≡ false → dwell ≡ 0 → IsPointOf calls places 0 stop dwell
first_point calls places stop dwell s d =
    let j : ℕ = length calls in
    let last : (j + 1 == length calls) ≡ false = ne_eqb (j + 1) (length calls) (λ e. omega (arith, e)) in
    let call : call_at calls j ≡ no_call = get_or_past calls j no_call (omega arith) in
    let no_stop : is_stop_call calls j ≡ false = rw (last, call) refl in
    let no_dwell : dwell_of calls j ≡ 0 = rw (last, call) refl in
    record {
      at = j;
      call = record { call = λ l. absurd (omega (arith, l)); none = λ past some. absurd (omega (arith, some)); index = omega arith };
      stop_is = s ∙ sym no_stop;
      dwell_is = d ∙ sym no_dwell;
    }

later_point : (calls : List Call) (old new : List ℕ) (k i : ℕ) (stop : Bool) (dwell : ℕ) → 1 ≤ i → get_or new i 0 ≡ get_or old (k + i) 0 → IsPointOf calls old (k + i) stop dwell → IsPointOf calls new i stop dwell
later_point calls old new k i stop dwell some at is = record {
  at = is.at;
  call = record {
    call = λ l. (some, (is.call.call l).1 ∙ sym at);
    none = λ past _ j l e. is.call.none past (omega (arith, some)) j l (e ∙ at);
    index = is.call.index;
  };
  stop_is = is.stop_is;
  dwell_is = is.dwell_is;
}

each_point : (calls : List Call) (old new : Rules) (place : ℕ) (k : ℕ) → length old.places ≡ length old.steps + 1 → ComesFrom old place new k →
    ((i : ℕ) → i < length old.places → IsPointOf calls old.places i (is_stop old i) (get_or old.dwells i 0)) →
    (i : ℕ) → i < length new.places → IsPointOf calls new.places i (is_stop new i) (get_or new.dwells i 0)
each_point calls old new place k count f each i l = elim (cases_eq i 0) [
  | inl e ↦ subst (λ (j : ℕ). IsPointOf calls new.places j (is_stop new j) (get_or new.dwells j 0)) (sym e) (first_point calls new.places (is_stop new 0) (get_or new.dwells 0 0) f.stop_first f.dwell_first)
  | inr ne ↦ (let m : 1 ≤ i = omega (arith, ne) in
      subst (λ (b : Bool). IsPointOf calls new.places i b (get_or new.dwells i 0)) (sym (f.stop_later i m))
      (subst (λ (d : ℕ). IsPointOf calls new.places i (is_stop old (k + i)) d) (sym (f.dwell_later i m))
      (later_point calls old.places new.places k i (is_stop old (k + i)) (get_or old.dwells (k + i) 0) m (f.place_later i m)
      (each (k + i) (omega (arith, l, f.place_count, f.step_count, count))))))
]

-- ---- the timing points

latest_later : (o : Option ℕ) (from to : ℕ) (later t : ℤ) → IsLater from to later → IsLatest o from t → IsLatest o to (t -ℤ later)
latest_later None from to later t l e = e
latest_later (Some s) from to later t l e = omega (arith, ints, l, e)

-- a timing point behind the place comes from an old one
timing_of : (calls : List Call) (from start clock1 clock2 : ℕ) (old new : Rules) (later : ℤ) (k : ℕ) → IsShaped old → ComesFrom old start new k → ((i j : ℕ) → i ≤ j → j < length old.places → get_or old.places i 0 ≤ get_or old.places j 0) →
    IsLater clock1 clock2 later → (t : Timing) → k < t.point → t.point ≤ length old.steps → IsTimingOf calls from clock1 old.places t → IsTimingOf calls start clock2 new.places (timing_from k later t)
timing_of calls from start clock1 clock2 old new later k s f order l t ahead within (j, there, after, at, latest) =
    let place : get_or new.places (t.point - k) 0 ≡ get_or old.places t.point 0 = f.place_later (t.point - k) (omega (arith, ahead)) ∙ same_at old.places (k + (t.point - k)) t.point 0 (omega (arith, ahead)) in
    let high : get_or old.places (k + 1) 0 ≤ get_or old.places t.point 0 = order (k + 1) t.point (omega (arith, ahead)) (omega (arith, within, s.places)) in
    (j, there, omega (arith, high, f.below, at), place ∙ at, latest_later (call_at calls j).latest clock1 clock2 later t.latest l latest)

some_more : (o : Option ℕ) (P Q : Type 0) → (P → Q) → IfSome o (λ _. P) → IfSome o (λ _. Q)
some_more None P Q f h = h
some_more (Some s) P Q f h = f h

-- an old timing point at a place behind the start is one of those that are left
timed_again : (old new : Rules) (start : ℕ) (later : ℤ) (speed : ℕ) (a : IsAdvanced old start speed later new) → ComesFrom old start new a.last →
    ((i j : ℕ) → i ≤ j → j < length old.places → get_or old.places i 0 ≤ get_or old.places j 0) →
    (place h : ℕ) → (get_or old.timings h no_timing).point ≤ length old.steps → h < length old.timings → get_or old.places (get_or old.timings h no_timing).point 0 ≡ place → start < place →
    (i : ℕ) × (i < length new.timings) × (get_or new.places (get_or new.timings i no_timing).point 0 ≡ place)
timed_again old new start later speed a f order place h within there at after =
    let k : ℕ = a.last in
    let b = a.timings_are in
    let p : ℕ = (get_or old.timings h no_timing).point in
    let count = timed_count old.timings new.timings k later b in
    let ahead : k < p = elim (cases_lt k p) [ inl x ↦ x | inr low ↦ absurd (omega (arith, at, after, f.at, order p k low (omega (arith, a.last_is.there)))) ] in
    let left : b.count ≤ h = elim (cases_lt h b.count) [ inl x ↦ absurd (omega (arith, ahead, b.passed.passed h x)) | inr o ↦ o ] in
    let inside : h - b.count < length new.timings = omega (arith, left, there, count) in
    let same : get_or old.timings (b.count + (h - b.count)) no_timing ≡ get_or old.timings h no_timing = same_at old.timings (b.count + (h - b.count)) h no_timing (omega (arith, left)) in
    let point : (get_or new.timings (h - b.count) no_timing).point ≡ p - k =
    ap (λ (t : Timing). t.point) (timed_at old.timings new.timings k later b (h - b.count) inside) ∙ ap (λ (t : Timing). t.point - k) same in (
      h - b.count,
      inside,
      same_at new.places (get_or new.timings (h - b.count) no_timing).point (p - k) 0 point ∙ f.place_later (p - k) (omega (arith, ahead)) ∙ same_at old.places (k + (p - k)) p 0 (omega (arith, ahead)) ∙ at,
    )

timings_from : (calls : List Call) (from start clock1 clock2 : ℕ) (old new : Rules) (speed : ℕ) (later : ℤ) → IsShaped old → IsShaped new → (a : IsAdvanced old start speed later new) → ComesFrom old start new a.last →
    from ≤ start → IsLater clock1 clock2 later → ((i j : ℕ) → i ≤ j → j < length old.places → get_or old.places i 0 ≤ get_or old.places j 0) →
    AreTimings calls from clock1 old.places old.timings → AreTimings calls start clock2 new.places new.timings
timings_from calls from start clock1 clock2 old new speed later s w a f begun l order t =
    let k : ℕ = a.last in
    let b = a.timings_are in
    let count = timed_count old.timings new.timings k later b in
    let within : (h : ℕ) → h < length old.timings → (get_or old.timings h no_timing).point ≤ length old.steps =
    λ h m. (All-get_or (λ t. (1 ≤ t.point) × (t.point ≤ length old.steps) × (unsigned_abs t.latest ≤ 172800000)) old.timings h no_timing m s.timings).1 in
    record {
      rise = w.rising;
      each = λ h m.
          let there : b.count + h < length old.timings = omega (arith, m, count) in
          subst (λ (x : Timing). IsTimingOf calls start clock2 new.places x) (sym (timed_at old.timings new.timings k later b h m))
          (timing_of calls from start clock1 clock2 old new later k s f order l (get_or old.timings (b.count + h) no_timing) (b.passed.ahead (b.count + h) (omega arith) there) (within (b.count + h) there) (t.each (b.count + h) there));
      every = λ j m after. some_more (call_at calls j).latest
          ((h : ℕ) × (h < length old.timings) × (get_or old.places (get_or old.timings h no_timing).point 0 ≡ (call_at calls j).place))
          ((h : ℕ) × (h < length new.timings) × (get_or new.places (get_or new.timings h no_timing).point 0 ≡ (call_at calls j).place))
          (λ (h, there, at). timed_again old new start later speed a f order (call_at calls j).place h (within h there) there at after)
          (t.every j m (omega (arith, begun, after)));
    }

-- ---- the refusals

-- no stop is too close to another
still_apart : (calls : List Call) (speed1 speed2 : ℕ) (old new : Rules) (place : ℕ) (k : ℕ) → ((i : ℕ) → i + 1 < length calls → (call_at calls i).place < (call_at calls (i + 1)).place) →
    length old.places ≡ length old.steps + 1 → ComesFrom old place new k → (speed2 ≡ 0 → is_stop old (k + 1) ≡ false) →
    ((i : ℕ) → i < length old.places → IsPointOf calls old.places i (is_stop old i) (get_or old.dwells i 0)) →
    ForNone (IsTooClose calls speed1 old.places) (length calls) → ForNone (IsTooClose calls speed2 new.places) (length calls)
still_apart calls speed1 speed2 old new place k rise count f next each apart j l (stop, i, there, at, close) =
    let here : get_or new.places (i + 1) 0 ≡ get_or old.places (k + i + 1) 0 = f.place_later (i + 1) (omega arith) ∙ same_at old.places (k + (i + 1)) (k + i + 1) 0 (omega arith) in
    elim close [
      | inl (first, stands) ↦ (let second : get_or old.places (k + 1) 0 ≡ (call_at calls j).place = same_at old.places (k + 1) (k + i + 1) 0 (omega (arith, first)) ∙ sym here ∙ at in
          let inside : k + 1 < length old.places = omega (arith, f.inside, count) in
          let is = each (k + 1) inside in
          let stops : is_stop_call calls is.at ≡ true = call_stop calls old.places (k + 1) is.at rise (omega arith) is.call (j, l, sym second, stop) in
          true≢false (sym stops ∙ sym is.stop_is ∙ next stands))
      | inr (after, before) ↦ apart j l (
        stop,
        k + i,
        omega (arith, there, f.place_count, f.step_count, count),
        sym here ∙ at,
        inr (omega (arith, after), subst (λ (p : ℕ). HasStop calls p) (f.place_later i after) before),
      )
    ]

-- no drag is too great
still_light : (train : Train) (old new : Rules) (place : ℕ) (k : ℕ) → length old.places ≡ length old.steps + 1 → ComesFrom old place new k →
    ForNone (IsTooGreat train old.places) (length old.steps) → ForNone (IsTooGreat train new.places) (length new.steps)
still_light train old new place k count f light i l great =
    let next : get_or new.places (i + 1) 0 ≡ get_or old.places (k + i + 1) 0 = f.place_later (i + 1) (omega arith) ∙ same_at old.places (k + (i + 1)) (k + i + 1) 0 (omega arith) in
    let here : get_or old.places (k + i) 0 ≤ get_or new.places i 0 = elim (cases_eq i 0) [
      | inl e ↦ omega (arith, same_at new.places i 0 0 e, f.place_first, same_at old.places (k + i) k 0 (omega (arith, e)), f.at)
      | inr ne ↦ omega (arith, f.place_later i (omega (arith, ne)))
    ] in
    let shorter : get_or new.places (i + 1) 0 - get_or new.places i 0 ≤ get_or old.places (k + i + 1) 0 - get_or old.places (k + i) 0 = omega (arith, next, here) in
    light (k + i) (omega (arith, l, f.step_count)) (omega (arith, great, mul-le-mul_left train.c shorter))

-- ---- the whole

pub goes_on_joined : (line : Line) (stretches : List Stretch) (place speed : ℕ) (later : ℤ) (old new : Rules) → IsShaped old → IsShaped new → IsAdvanced old place speed later new → HasLeastLimits line stretches new →
    get_or old.places 0 0 ≤ place → place < get_or old.places (length old.steps) 0 → IsNoStopNext old place speed → GoesOnJoined line stretches place speed later old new
goes_on_joined line stretches place speed later old new s w a limited begun ends next train service setup clock is j l =
    let calls = service.calls in
    let k : ℕ = a.last in
    let f = comes_from old new place speed later s a in
    let marks = marks_of line service in
    let to : ℕ = last_place calls in
    let g = j.joined.grid in
    let span : setup.place < to = j.accepted.grid.span in
    let first : get_or old.places 0 0 ≡ setup.place = first_is marks setup.step setup.place to old.places g span in
    let last : get_or old.places (length old.places - 1) 0 ≡ to = last_is marks setup.step setup.place to old.places g span in
    let before : place < to = omega (arith, ends, last, same_at old.places (length old.steps) (length old.places - 1) 0 (omega (arith, s.places))) in
    let order : (i j : ℕ) → i ≤ j → j < length old.places → get_or old.places i 0 ≤ get_or old.places j 0 = places_not_above old.places g.rises in
    let grid : IsGrid marks setup.step place to new.places =
    grid_from marks setup.step setup.place to place k old.places new.places g span (omega (arith, begun, first)) before a.last_is a.places_are (omega (arith, f.place_count, f.step_count, s.places)) in
    let metres : new.train_length ≡ train.length = a.length_is ∙ j.joined.length_is in
    record {
      joined = record {
        grid = grid;
        start_is = a.start_is;
        top_is = ap (λ (x : ℕ). x + 1) a.top_is ∙ j.joined.top_is;
        traction_is = a.traction_is ∙ j.joined.traction_is;
        brake_is = a.brake_is ∙ j.joined.brake_is;
        length_is = metres;
        steps_are = f.place_count;
        each_step = each_step train line.gradients old new place k f j.joined.each_step;
        limits_are = limited.count;
        each_limit = λ i m. subst (λ (x : ℕ). IsLeastLimit line.limits stretches x (get_or new.places i 0) (get_or new.places (i + 1) 0) (get_or new.limits i 0)) metres (limited.each i m);
        stops_are = f.stop_count ∙ sym f.place_count;
        dwells_are = f.dwell_count ∙ sym f.place_count;
        each_point = each_point calls old new place k s.places f j.joined.each_point;
        timings_are = timings_from calls setup.place place setup.clock clock old new speed later s w a f (omega (arith, begun, first)) l order j.joined.timings_are;
      };
      accepted = record {
        on_line = j.accepted.on_line;
        grid = record { span = before; grid = grid; few = omega (arith, f.place_count, w.few) };
        apart = still_apart calls setup.speed speed old new place k is.calls.rising s.places f (λ stands. next stands k a.last_is) j.joined.each_point j.accepted.apart;
      };
      light = still_light train old new place k s.places f j.light;
    }

-- the limits are set last, and leave all else
pub advanced_limited : (line : Line) (stretches : List Stretch) (place speed : ℕ) (later : ℤ) (old mid new : Rules) → IsAdvanced old place speed later mid → IsLimited line stretches mid new → IsAdvanced old place speed later new
advanced_limited line stretches place speed later old mid new a l = record {
  last = a.last;
  last_is = a.last_is;
  start_is = ap (λ (r : Rules). r.start) l.rest ∙ a.start_is;
  top_is = ap (λ (r : Rules). r.top) l.rest ∙ a.top_is;
  traction_is = ap (λ (r : Rules). r.traction) l.rest ∙ a.traction_is;
  brake_is = ap (λ (r : Rules). r.brake) l.rest ∙ a.brake_is;
  length_is = ap (λ (r : Rules). r.train_length) l.rest ∙ a.length_is;
  places_are = ap (λ (r : Rules). r.places) l.rest ∙ a.places_are;
  steps_are = ap (λ (r : Rules). r.steps) l.rest ∙ a.steps_are;
  limits_are = l.limits.count;
  stops_are = ap (λ (r : Rules). r.stops) l.rest ∙ a.stops_are;
  dwells_are = ap (λ (r : Rules). r.dwells) l.rest ∙ a.dwells_are;
  timings_are = record { count = a.timings_are.count; passed = a.timings_are.passed; rest = ap (λ (r : Rules). r.timings) l.rest ∙ a.timings_are.rest };
}
