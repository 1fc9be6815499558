-- Rules that have come further have the shape of the rules of every run.
use Rattle.std.proofs.Common.{ℕ, ℤ, ◌≡◌, ◌<◌, ◌≤◌, ◌+◌, ◌-◌, ◌∙◌, List, Bool, true, false, length, get_or, subst, sym, ap, arith, inl, inr, pos, ◌≤ℤ◌, ◌-ℤ◌}
use Rattle.std.specs.Prelude.{MatchBool, All, Contains}
use Rattle.std.specs.Int.RustNames.{unsigned_abs}
use Rattle.std.proofs.Math.Nat.{mul-le-mul_left}
use Rattle.std.proofs.lemmas.Int.{ints}
use Rattle.std.proofs.lemmas.Bool.{cases_lt, cases_eq}
use Rattle.std.proofs.lemmas.List.{get_or_default}
use Rattle.std.proofs.lemmas.List.Elements.{All-get_or, All-from_get_or}
use Rattle.rail_specs.specs.declared.StepNumbers.{StepNumbers}
use Rattle.rail_specs.specs.declared.Timing.{Timing}
use Rattle.rail_specs.specs.Rules.{Rules, IsPassed, is_stop, step_at, no_step, no_timing}
use Rattle.rail_specs.specs.Step.{IsInRange, HasSmallDrag}
use Rattle.rail_specs.specs.Table.{IsForceTable}
use Rattle.line_file.specs.declared.line.Line.{Line}
use Rattle.rule_parts.specs.Shaped.{IsShaped, Rises}
use Rattle.joined_rules.proofs.JoinedRising.{timings_rise, places_order, places_not_above}
use Rattle.rule_changes.specs.Advance.{IsAdvanced, IsLastAt, IsNoStopNext, AreTimingsFrom, StayInRange, shortened}
use Rattle.rule_changes.specs.Limits.{IsOnLine}
use Rattle.rule_changes.proofs.LimitsKept.{places_rise}
use Rattle.rule_changes.proofs.AdvanceLists.{same_at, left_count, left_first, left_later, timed_count, timed_at}

-- what is left of a step is in range, and its drag is small
pub left_in_range : (n : StepNumbers) (metres : ℕ) → IsInRange n → 1 ≤ metres → metres ≤ n.metres → IsInRange (shortened n metres)
left_in_range n metres h some within = record { train = h.train; metres = (some, omega (arith, h.metres.1, within)); gradient = h.gradient }

pub left_light : (n : StepNumbers) (metres : ℕ) → HasSmallDrag n → metres ≤ n.metres → HasSmallDrag (shortened n metres)
left_light n metres h within = omega (arith, h, mul-le-mul_left n.c within)

-- where the steps, the points and the timing points of the new rules come from in the old ones
pub record ComesFrom (old : Rules) (place : ℕ) (new : Rules) (k : ℕ) : Type 0 where
  pub inside : k < length old.steps
  pub at : get_or old.places k 0 ≤ place
  pub below : place < get_or old.places (k + 1) 0
  pub step_count : length new.steps + k ≡ length old.steps
  pub place_count : length new.places ≡ length new.steps + 1
  pub stop_count : length new.stops ≡ length new.steps + 1
  pub dwell_count : length new.dwells ≡ length new.steps + 1
  pub step_first : step_at new 0 ≡ shortened (step_at old k) (get_or old.places (k + 1) 0 - place)
  pub step_later : (i : ℕ) → 1 ≤ i → step_at new i ≡ step_at old (k + i)
  pub place_first : get_or new.places 0 0 ≡ place
  pub place_later : (i : ℕ) → 1 ≤ i → get_or new.places i 0 ≡ get_or old.places (k + i) 0
  pub stop_first : is_stop new 0 ≡ false
  pub stop_later : (i : ℕ) → 1 ≤ i → is_stop new i ≡ is_stop old (k + i)
  pub dwell_first : get_or new.dwells 0 0 ≡ 0
  pub dwell_later : (i : ℕ) → 1 ≤ i → get_or new.dwells i 0 ≡ get_or old.dwells (k + i) 0
  -- the length that is left of the first step
  pub some_left : 1 ≤ get_or old.places (k + 1) 0 - place
  pub part_left : get_or old.places (k + 1) 0 - place ≤ (step_at old k).metres

pub comes_from : (old new : Rules) (place speed : ℕ) (later : ℤ) → IsShaped old → (a : IsAdvanced old place speed later new) → ComesFrom old place new a.last
comes_from old new place speed later s a =
    let k : ℕ = a.last in
    let inside : k < length old.steps = omega (arith, a.last_is.there, s.places) in
    let here : k < length old.places = omega (arith, a.last_is.there) in
    let steps : length new.steps + k ≡ length old.steps = left_count (shortened (step_at old k) (get_or old.places (k + 1) 0 - place)) k old.steps new.steps a.steps_are inside in
    record {
      inside = inside;
      at = a.last_is.at;
      below = a.last_is.below;
      step_count = steps;
      place_count = omega (arith, steps, s.places, left_count place k old.places new.places a.places_are here);
      stop_count = omega (arith, steps, s.stops, left_count false k old.stops new.stops a.stops_are (omega (arith, inside, s.stops)));
      dwell_count = omega (arith, steps, s.dwells, left_count 0 k old.dwells new.dwells a.dwells_are (omega (arith, inside, s.dwells)));
      step_first = left_first (shortened (step_at old k) (get_or old.places (k + 1) 0 - place)) k old.steps new.steps no_step a.steps_are;
      step_later = λ i l. left_later (shortened (step_at old k) (get_or old.places (k + 1) 0 - place)) k old.steps new.steps i no_step a.steps_are l;
      place_first = left_first place k old.places new.places 0 a.places_are;
      place_later = λ i l. left_later place k old.places new.places i 0 a.places_are l;
      stop_first = left_first false k old.stops new.stops false a.stops_are;
      stop_later = λ i l. left_later false k old.stops new.stops i false a.stops_are l;
      dwell_first = left_first 0 k old.dwells new.dwells 0 a.dwells_are;
      dwell_later = λ i l. left_later 0 k old.dwells new.dwells i 0 a.dwells_are l;
      some_left = omega (arith, a.last_is.below);
      part_left = omega (arith, a.last_is.at, s.metres k inside);
    }

-- a step is the first, or comes after it
by_first : (P : ℕ → Type 0) (i : ℕ) → P 0 → (1 ≤ i → P i) → P i
by_first P i first more = elim (cases_eq i 0) [ inl e ↦ subst P (sym e) first | inr ne ↦ more (omega arith) ]

numbers_in_range : (old new : Rules) (place : ℕ) (k : ℕ) → IsShaped old → ComesFrom old place new k → (i : ℕ) → i < length new.steps → IsInRange (step_at new i)
numbers_in_range old new place k s f i l = by_first (λ (j : ℕ). IsInRange (step_at new j)) i
    (subst IsInRange (sym f.step_first) (left_in_range (step_at old k) (get_or old.places (k + 1) 0 - place) (s.numbers k f.inside) f.some_left f.part_left))
    (λ m. subst IsInRange (sym (f.step_later i m)) (s.numbers (k + i) (omega (arith, l, f.step_count))))

all_light : (old new : Rules) (place : ℕ) (k : ℕ) → IsShaped old → ComesFrom old place new k → (i : ℕ) → i < length new.steps → HasSmallDrag (step_at new i)
all_light old new place k s f i l = by_first (λ (j : ℕ). HasSmallDrag (step_at new j)) i
    (subst (λ (n : StepNumbers). HasSmallDrag n) (sym f.step_first) (left_light (step_at old k) (get_or old.places (k + 1) 0 - place) (s.small_drag k f.inside) f.part_left))
    (λ m. subst (λ (n : StepNumbers). HasSmallDrag n) (sym (f.step_later i m)) (s.small_drag (k + i) (omega (arith, l, f.step_count))))

all_far : (old new : Rules) (place : ℕ) (k : ℕ) → IsShaped old → ComesFrom old place new k → (i : ℕ) → get_or new.places i 0 ≤ 4000000
all_far old new place k s f i = by_first (λ (j : ℕ). get_or new.places j 0 ≤ 4000000) i
    (omega (arith, f.place_first, f.below, s.far (k + 1)))
    (λ m. omega (arith, f.place_later i m, s.far (k + i)))

all_short : (old new : Rules) (place : ℕ) (k : ℕ) → IsShaped old → ComesFrom old place new k → (i : ℕ) → get_or new.dwells i 0 ≤ 7200000
all_short old new place k s f i = by_first (λ (j : ℕ). get_or new.dwells j 0 ≤ 7200000) i
    (omega (arith, f.dwell_first))
    (λ m. omega (arith, f.dwell_later i m, s.short_dwells (k + i)))

-- each place is a step's length behind the one before
pub metres_apart : (old new : Rules) (place : ℕ) (k : ℕ) → IsShaped old → ComesFrom old place new k → (i : ℕ) → i < length new.steps →
    get_or new.places (i + 1) 0 ≡ get_or new.places i 0 + (step_at new i).metres
metres_apart old new place k s f i l = by_first (λ (j : ℕ). get_or new.places (j + 1) 0 ≡ get_or new.places j 0 + (step_at new j).metres) i
    (let m : (step_at new 0).metres ≡ get_or old.places (k + 1) 0 - place = ap (λ (n : StepNumbers). n.metres) f.step_first in
    omega (arith, m, f.place_first, f.place_later 1 (omega arith), f.below))
    (λ m. let metres : (step_at new i).metres ≡ (step_at old (k + i)).metres = ap (λ (n : StepNumbers). n.metres) (f.step_later i m) in
    let next : get_or new.places (i + 1) 0 ≡ get_or old.places (k + i + 1) 0 = f.place_later (i + 1) (omega arith) ∙ same_at old.places (k + (i + 1)) (k + i + 1) 0 (omega arith) in
    omega (arith, metres, next, f.place_later i m, s.metres (k + i) (omega (arith, l, f.step_count))))

stops_last : (old new : Rules) (place : ℕ) (k : ℕ) → IsShaped old → ComesFrom old place new k → is_stop new (length new.steps) ≡ true
stops_last old new place k s f =
    f.stop_later (length new.steps) (omega (arith, f.step_count, f.inside)) ∙ same_at old.stops (k + length new.steps) (length old.steps) false (omega (arith, f.step_count)) ∙ s.last_stop

-- no step begins and ends at a standstill
moving : (old new : Rules) (place : ℕ) (k : ℕ) → IsShaped old → ComesFrom old place new k → (new.start ≡ 0 → is_stop old (k + 1) ≡ false) →
    (i v0 v1 : ℕ) → i < length new.steps → (i ≡ 0 → v0 ≡ new.start) → (1 ≤ i → IsPassed new i v0) → IsPassed new (i + 1) v1 → 1 ≤ v0 + v1
moving old new place k s f next i v0 v1 l first entry exit = elim (cases_eq i 0) [
  | inl e ↦ elim (cases_eq new.start 0) [
    | inl stands ↦ (let stop : is_stop new (i + 1) ≡ false = same_at new.stops (i + 1) 1 false (omega (arith, e)) ∙ f.stop_later 1 (omega arith) ∙ next stands in
        let fast : 1 ≤ v1 = subst (λ (b : Bool). MatchBool b (v1 ≡ 0) (1 ≤ v1)) stop exit in omega (arith, fast))
    | inr rolls ↦ (let same : v0 ≡ new.start = first e in omega (arith, same, rolls))
  ]
  | inr ne ↦ (let after : 1 ≤ i = omega (arith, ne) in
      let there : is_stop new (i + 1) ≡ is_stop old (k + i + 1) = f.stop_later (i + 1) (omega arith) ∙ same_at old.stops (k + (i + 1)) (k + i + 1) false (omega arith) in
      s.moving (k + i) v0 v1 (omega (arith, l, f.step_count)) (λ z. absurd (omega (arith, z, after)))
      (λ z. subst (λ (b : Bool). MatchBool b (v0 ≡ 0) (1 ≤ v0)) (f.stop_later i after) (entry after))
      (subst (λ (b : Bool). MatchBool b (v1 ≡ 0) (1 ≤ v1)) there exit))
]

-- ---- timing points

rises_on : (old new : List Timing) (k : ℕ) (later : ℤ) → Rises old → AreTimingsFrom old k later new → Rises new
rises_on old new k later rise a j l =
    let count = timed_count old new k later a in
    let here : (get_or new j no_timing).point ≡ (get_or old (a.count + j) no_timing).point - k = ap (λ (t : Timing). t.point) (timed_at old new k later a j (omega (arith, l))) in
    let next : (get_or new (j + 1) no_timing).point ≡ (get_or old (a.count + (j + 1)) no_timing).point - k = ap (λ (t : Timing). t.point) (timed_at old new k later a (j + 1) l) in
    omega (arith, here, next, a.passed.ahead (a.count + j) (omega arith) (omega (arith, l, count)), timings_rise old rise (a.count + j) (a.count + (j + 1)) (omega arith) (omega (arith, l, count)))

-- a timing point of the new rules is one of the old ones behind the point, so many points and ms less
timed_in : (old new : List Timing) (k n m : ℕ) (later : ℤ) → All (λ t. (1 ≤ t.point) × (t.point ≤ n) × (unsigned_abs t.latest ≤ 172800000)) old → m + k ≡ n →
    (pos 0 ≤ℤ later) × (later ≤ℤ pos 172800000) → StayInRange old later → AreTimingsFrom old k later new →
    (h : ℕ) → h < length new → (1 ≤ (get_or new h no_timing).point) × ((get_or new h no_timing).point ≤ m) × (unsigned_abs (get_or new h no_timing).latest ≤ 172800000)
timed_in old new k n m later each e span stay a h l =
    let there : a.count + h < length old = omega (arith, l, timed_count old new k later a) in
    let t : Timing = get_or old (a.count + h) no_timing in
    let was = All-get_or (λ t. (1 ≤ t.point) × (t.point ≤ n) × (unsigned_abs t.latest ≤ 172800000)) old (a.count + h) no_timing there each in
    let point : (get_or new h no_timing).point ≡ t.point - k = ap (λ (t : Timing). t.point) (timed_at old new k later a h l) in
    let latest : (get_or new h no_timing).latest ≡ t.latest -ℤ later = ap (λ (t : Timing). t.latest) (timed_at old new k later a h l) in (
      omega (arith, point, a.passed.ahead (a.count + h) (omega arith) there),
      omega (arith, point, was.1, e),
      omega (arith, ints, latest, was.2, span.0, span.1, stay (a.count + h) there),
    )

-- the last timing point stays the last
some_ahead : (old new : List Timing) (k n : ℕ) (later : ℤ) → 1 ≤ length old → (get_or old (length old - 1) no_timing).point ≡ n → k < n → AreTimingsFrom old k later new → 1 ≤ length new
some_ahead old new k n later some last inside a = elim (cases_lt (length old - 1) a.count) [
  | inl b ↦ absurd (omega (arith, last, inside, a.passed.passed (length old - 1) b))
  | inr o ↦ omega (arith, o, some, timed_count old new k later a)
]

last_ahead : (old new : List Timing) (k n m : ℕ) (later : ℤ) → 1 ≤ length new → (get_or old (length old - 1) no_timing).point ≡ n → m + k ≡ n → AreTimingsFrom old k later new →
    (get_or new (length new - 1) no_timing).point ≡ m
last_ahead old new k n m later some last e a =
    let count = timed_count old new k later a in
    let same : get_or old (a.count + (length new - 1)) no_timing ≡ get_or old (length old - 1) no_timing = same_at old (a.count + (length new - 1)) (length old - 1) no_timing (omega (arith, count, some)) in
    let point : (get_or new (length new - 1) no_timing).point ≡ (get_or old (length old - 1) no_timing).point - k =
    ap (λ (t : Timing). t.point) (timed_at old new k later a (length new - 1) (omega (arith, some))) ∙ ap (λ (t : Timing). t.point - k) same in
    omega (arith, point, last, e)

-- ---- the whole

pub advanced_shaped : (old new : Rules) (place speed : ℕ) (later : ℤ) → IsShaped old → IsAdvanced old place speed later new → speed ≤ 12000 → IsNoStopNext old place speed →
    (pos 0 ≤ℤ later) × (later ≤ℤ pos 172800000) → StayInRange old.timings later → ((i : ℕ) → get_or new.limits i 0 ≤ 12000) → IsShaped new
advanced_shaped old new place speed later s a slow next span stay low =
    let k : ℕ = a.last in
    let n : ℕ = length old.steps in
    let m : ℕ = length new.steps in
    let f = comes_from old new place speed later s a in
    let some : 1 ≤ length new.timings = some_ahead old.timings new.timings k n later s.some_timings s.last_timing f.inside a.timings_are in
    record {
      some = omega (arith, f.step_count, f.inside);
      few = omega (arith, f.step_count, s.few);
      top = omega (arith, a.top_is, s.top);
      start = omega (arith, a.start_is, slow);
      traction_top = ap (λ (xs : List ℕ). length xs) a.traction_is ∙ s.traction_top ∙ ap (λ (x : ℕ). x + 1) (sym a.top_is);
      brake_top = ap (λ (xs : List ℕ). length xs) a.brake_is ∙ s.brake_top ∙ ap (λ (x : ℕ). x + 1) (sym a.top_is);
      traction = subst (λ (xs : List ℕ). IsForceTable xs) (sym a.traction_is) s.traction;
      brake = subst (λ (xs : List ℕ). IsForceTable xs) (sym a.brake_is) s.brake;
      short_train = omega (arith, a.length_is, s.short_train);
      numbers = numbers_in_range old new place k s f;
      small_drag = all_light old new place k s f;
      limits = a.limits_are;
      low_limits = low;
      places = f.place_count;
      far = all_far old new place k s f;
      metres = metres_apart old new place k s f;
      stops = f.stop_count;
      last_stop = stops_last old new place k s f;
      dwells = f.dwell_count;
      first_dwell = f.dwell_first;
      short_dwells = all_short old new place k s f;
      some_timings = some;
      few_timings = omega (arith, s.few_timings, timed_count old.timings new.timings k later a.timings_are);
      rising = rises_on old.timings new.timings k later s.rising a.timings_are;
      timings = All-from_get_or (λ t. (1 ≤ t.point) × (t.point ≤ length new.steps) × (unsigned_abs t.latest ≤ 172800000)) new.timings no_timing
          (timed_in old.timings new.timings k n m later s.timings f.step_count span stay a.timings_are);
      last_timing = last_ahead old.timings new.timings k n m later some s.last_timing f.step_count a.timings_are;
      moving = moving old new place k s f (λ stands. next (sym a.start_is ∙ stands) k a.last_is);
    }

-- ---- the first row

-- the place is one of the grid's exactly where it is that of the last point at or before it, and so where the whole step is left
pub whole_step : (old : Rules) (place k : ℕ) → IsShaped old → IsLastAt old.places place k → Contains old.places place → get_or old.places (k + 1) 0 - place ≡ (step_at old k).metres
whole_step old place k s last (i, l, e) =
    let inside : k < length old.steps = omega (arith, last.there, s.places) in
    let rising = places_rise old s in
    let same : get_or old.places i 0 ≡ place = get_or_default old.places i 0 place l ∙ e in
    let not_later : i < k + 1 = places_order old.places rising i (k + 1) l (omega (arith, same, last.below)) in
    let at : place ≤ get_or old.places k 0 = omega (arith, same, places_not_above old.places rising i k (omega (arith, not_later)) (omega (arith, last.there))) in
    omega (arith, at, last.at, s.metres k inside)

pub part_of_step : (old : Rules) (place k : ℕ) → IsShaped old → IsLastAt old.places place k → (Contains old.places place → ⊥) → get_or old.places (k + 1) 0 - place < (step_at old k).metres
part_of_step old place k s last other =
    let inside : k < length old.steps = omega (arith, last.there, s.places) in
    let here : k < length old.places = omega (arith, last.there) in
    elim (cases_lt (get_or old.places k 0) place) [
      | inl b ↦ omega (arith, b, last.below, s.metres k inside)
      | inr at ↦ (let same : get_or old.places k 0 ≡ place = omega (arith, at, last.at) in absurd (other (k, here, get_or_default old.places k place 0 here ∙ same)))
    ]

-- ---- the line

pub stays_on_line : (line : Line) (old new : Rules) (place : ℕ) (k : ℕ) → IsShaped old → IsOnLine line old → ComesFrom old place new k → IsOnLine line new
stays_on_line line old new place k s on f i l = elim (cases_eq i 0) [
  | inl e ↦ (let first : get_or new.places i 0 ≡ place = same_at new.places i 0 0 e ∙ f.place_first in
      let before = on k (omega (arith, f.inside, s.places)) in
      let behind = on (k + 1) (omega (arith, f.inside, s.places)) in
      (omega (arith, first, before.0, f.at), omega (arith, first, behind.1, f.below)))
  | inr ne ↦ (let here = f.place_later i (omega (arith, ne)) in
      let old_on = on (k + i) (omega (arith, l, f.place_count, f.step_count, s.places)) in
      (omega (arith, here, old_on.0), omega (arith, here, old_on.1)))
]
