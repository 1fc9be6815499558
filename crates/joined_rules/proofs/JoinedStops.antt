-- Stops at points are stops of calls.
use Rattle.std.proofs.Common.{ℕ, ◌≡◌, ◌<◌, ◌≤◌, ◌+◌, ◌-◌, ◌∙◌, ◌==◌, List, Bool, true, false, length, get_or, subst, sym, arith, inl, inr, refl}
use Rattle.std.proofs.lemmas.Bool.{cases_lt, ne_eqb, true≢false}
use Rattle.std.proofs.lemmas.List.{get_or_past}
use Rattle.line_file.specs.declared.calls.Call.{Call}
use Rattle.line_file.specs.ServiceText.{no_call}
use Rattle.line_file.specs.Shape.{call_at}
use Rattle.joined_rules.specs.Joined.{HasStop, IsCallAt, IsFirst, ForNone, IsTooClose, is_stop_call}
use Rattle.joined_rules.specs.JoinedParts.{CallsRise, Rising, IsCloseStop, NoneClose, AreStops}
use Rattle.joined_rules.proofs.JoinedRising.{calls_rise, places_order}

-- there is no stop call past the last call
never_past : (calls : List Call) (j : ℕ) → length calls ≤ j → is_stop_call calls j ≡ false
never_past calls j h =
    let last : (j + 1 == length calls) ≡ false = ne_eqb (j + 1) (length calls) (λ e. omega (arith, e, h)) in
    let call : call_at calls j ≡ no_call = get_or_past calls j no_call h in
    rw (last, call) refl

-- calls at one place are one call
pub one_call : (calls : List Call) → CallsRise calls → (i j : ℕ) → i < length calls → j < length calls → (call_at calls i).place ≡ (call_at calls j).place → i ≡ j
one_call calls h i j l m e = elim (cases_lt i j) [
  | inl b ↦ absurd (omega (arith, e, calls_rise calls h i j b m))
  | inr g ↦ elim (cases_lt j i) [
    | inl b ↦ absurd (omega (arith, e, calls_rise calls h j i b l))
    | inr o ↦ omega (arith, g, o)
  ]
]

-- the call at a stop
pub stop_call : (calls : List Call) (places : List ℕ) (k j : ℕ) → IsCallAt calls places k j → is_stop_call calls j ≡ true → (j < length calls) × (1 ≤ k) × ((call_at calls j).place ≡ get_or places k 0)
stop_call calls places k j at stop = elim (cases_lt j (length calls)) [
  | inl b ↦ (b, (at.call b).0, (at.call b).1)
  | inr past ↦ absurd (true≢false (sym stop ∙ never_past calls j past))
]

-- the call at the place of a stop is the one that stands at its point
pub call_stop : (calls : List Call) (places : List ℕ) (k j : ℕ) → CallsRise calls → 1 ≤ k → IsCallAt calls places k j → HasStop calls (get_or places k 0) → is_stop_call calls j ≡ true
call_stop calls places k j rise after at (i, l, e, stop) = elim (cases_lt j (length calls)) [
  | inl b ↦ subst (λ (n : ℕ). is_stop_call calls n ≡ true) (one_call calls rise i j l b (e ∙ sym (at.call b).1)) stop
  | inr past ↦ absurd (at.none past after i l e)
]

-- a stop too close at a point is one of calls, and the other way round
pub close_call : (calls : List Call) (places visits : List ℕ) (stops : List Bool) (speed k : ℕ) → CallsRise calls → AreStops calls places visits stops → k + 1 < length visits →
    IsCloseStop stops speed k → IsTooClose calls speed places (get_or visits (k + 1) 0) × (get_or visits (k + 1) 0 < length calls)
close_call calls places visits stops speed k rise s l close =
    let stop : is_stop_call calls (get_or visits (k + 1) 0) ≡ true = sym (s.each (k + 1) l) ∙ close.0 in
    let at = stop_call calls places (k + 1) (get_or visits (k + 1) 0) (s.visits_are.each (k + 1) l) stop in
    let there : k < length visits = omega (arith, l) in (
      (
        stop,
        k,
        omega (arith, l, s.visits_are.count),
        sym at.2,
        elim close.1 [
          | inl before ↦ (let other : is_stop_call calls (get_or visits k 0) ≡ true = sym (s.each k there) ∙ before in
              let b = stop_call calls places k (get_or visits k 0) (s.visits_are.each k there) other in
              inr (b.1, (get_or visits k 0, b.0, b.2, other)))
          | inr start ↦ inl start
        ],
      ),
      at.0,
    )

pub call_close : (calls : List Call) (places visits : List ℕ) (stops : List Bool) (speed i : ℕ) → CallsRise calls → AreStops calls places visits stops → i < length calls →
    IsTooClose calls speed places i → (k : ℕ) × (k + 1 < length visits) × (get_or places (k + 1) 0 ≡ (call_at calls i).place) × IsCloseStop stops speed k
call_close calls places visits stops speed i rise s l (stop, k, there, e, other) =
    let next : k + 1 < length visits = omega (arith, there, s.visits_are.count) in
    let here : k < length visits = omega (arith, next) in (
      k,
      next,
      e,
      (
        s.each (k + 1) next ∙ call_stop calls places (k + 1) (get_or visits (k + 1) 0) rise (omega arith) (s.visits_are.each (k + 1) next) (i, l, sym e, stop),
        elim other [
          | inl start ↦ inr start
          | inr before ↦ inl (s.each k here ∙ call_stop calls places k (get_or visits k 0) rise before.0 (s.visits_are.each k here) before.1)
        ],
      ),
    )

-- the first stop too close
pub first_close : (calls : List Call) (places visits : List ℕ) (stops : List Bool) (speed k : ℕ) → CallsRise calls → Rising places → AreStops calls places visits stops → k + 1 < length stops →
    IsCloseStop stops speed k → NoneClose stops speed k → IsFirst (IsTooClose calls speed places) (length calls) (get_or visits (k + 1) 0)
first_close calls places visits stops speed k rise rising s l close before =
    let there : k + 1 < length visits = omega (arith, l, s.count) in
    let c = close_call calls places visits stops speed k rise s there close in
    record {
      within = c.1;
      holds = c.0;
      before = λ i m earlier.
          let d = call_close calls places visits stops speed i rise s (omega (arith, m, c.1)) earlier in
          let e : (call_at calls (get_or visits (k + 1) 0)).place ≡ get_or places (k + 1) 0 = ((s.visits_are.each (k + 1) there).call c.1).1 in
          let order : d.0 + 1 < k + 1 = places_order places rising (d.0 + 1) (k + 1) (omega (arith, d.1, s.visits_are.count)) (omega (arith, d.2, e, calls_rise calls rise i (get_or visits (k + 1) 0) m c.1)) in
          before d.0 (omega (arith, order)) d.3;
    }

-- no stop too close at points, so none of calls
pub all_apart : (calls : List Call) (places visits : List ℕ) (stops : List Bool) (speed : ℕ) → CallsRise calls → AreStops calls places visits stops →
    NoneClose stops speed (length stops - 1) → ForNone (IsTooClose calls speed places) (length calls)
all_apart calls places visits stops speed rise s none i l close =
    let d = call_close calls places visits stops speed i rise s l close in
    none d.0 (omega (arith, d.1, s.count)) d.3
