-- The latest time of a call that is set: the service, the timing points and the rules.
use Rattle.std.proofs.Common.{ℕ, ℤ, zero, suc, pos, ◌≡◌, ◌≢◌, ◌<◌, ◌≤◌, ◌+◌, ◌-◌, ◌*◌, ◌-ℤ◌, ◌*ℤ◌, to_z, of_z, w64, ◌&&◌, ◌==◌, ◌∙◌, true, false, List, [], ◌∷◌, length, get_or, Option, Some, None, refl, ap, arith, sym, subst, inl, inr, take, drop, length-drop, nat_le, is_some, is_none}
use Rattle.std.specs.Prelude.{count_by, cond, IfSome, IsSome, map, ◌++◌}
use Rattle.std.proofs.lemmas.Bool.{cases_eq, cases_Bool, cases_lt, lt-ltb, le-ltb}
use Rattle.std.proofs.lemmas.Bool.Decides.{nat_tests}
use Rattle.std.proofs.lemmas.Grind.{get_or_after_one}
use Rattle.std.proofs.lemmas.Int.{ints}
use Rattle.std.proofs.lemmas.List.Sums.{count_by_more_no, count_by_more_yes, sum_by-set, sum_by-take-le}
use Rattle.rail_specs.specs.declared.Timing.{Timing}
use Rattle.rail_specs.specs.Rules.{Rules, no_timing}
use Rattle.line_file.specs.declared.calls.Call.{Call}
use Rattle.line_file.specs.ServiceText.{latest_count, no_call}
use Rattle.line_file.specs.Shape.{IsCall, IsService, call_at}
use Rattle.line_file.specs.declared.line.Line.{Line}
use Rattle.line_file.specs.declared.service.Service.{Service}
use Rattle.train_file.specs.declared.train.Train.{Train}
use Rattle.joined_rules.specs.declared.setup.Stretch.{Stretch}
use Rattle.rule_parts.specs.Shaped.{IsShaped}
use Rattle.joined_rules.specs.Joined.{AreTimings, IsLatest, IsTimingOf, Joins, last_place, marks_of}
use Rattle.joined_rules.specs.JoinedParts.{CallsRise, Rising}
use Rattle.joined_rules.proofs.JoinedGrid.{call_place, first_is, index_of}
use Rattle.joined_rules.proofs.JoinedRising.{calls_rise, places_not_above, places_rise}
use Rattle.advice_session.proofs.PlaceLaws.{behind_at}
use Rattle.advice_session.proofs.TimingLaws.{one_more as one_more_timing, none_more}
use Rattle.std.proofs.lemmas.List.Quantifiers.{position-Some}
use Rattle.joined_rules.proofs.JoinedStops.{one_call}
use Rattle.rule_changes.specs.Latest.{IsLatestSet, with_latest, with_latest_at, with_latest_call}
use Rattle.advice_session.specs.Data.{Data, IsSession, State, state_of}
use Rattle.advice_session.specs.Faults.{call_at_place, call_behind, is_too_many, point_behind}
use Rattle.advice_session.proofs.CallLaws.{alike, same_apart, same_on_line, same_places, same_point, set_other, set_there}

-- ---- how many timing points there are

one_more : (calls : List Call) (i : ℕ) → i < length calls → count_by (λ c. is_some c.latest) (take i calls) ≤ count_by (λ c. is_some c.latest) (take (i + 1) calls)
one_more calls i l = elim (cases_Bool (is_some (call_at calls i).latest)) [
  | inl s ↦ omega (arith, count_by_more_yes (λ c. is_some c.latest) calls i no_call l s)
  | inr s ↦ omega (arith, count_by_more_no (λ c. is_some c.latest) calls i no_call l s)
]

more : (calls : List Call) (i n : ℕ) → i + n ≤ length calls → count_by (λ c. is_some c.latest) (take i calls) ≤ count_by (λ c. is_some c.latest) (take (i + n) calls)
more calls i zero l =
    let here : i + zero ≡ i = omega arith in
    subst (λ (m : ℕ). count_by (λ c. is_some c.latest) (take i calls) ≤ count_by (λ c. is_some c.latest) (take m calls)) (sym here) (omega arith)
more calls i (suc n) l =
    let next : i + suc n ≡ (i + n) + 1 = omega arith in
    subst (λ (m : ℕ). count_by (λ c. is_some c.latest) (take i calls) ≤ count_by (λ c. is_some c.latest) (take m calls)) (sym next)
    (omega (arith, more calls i n (omega (arith, l)), one_more calls (i + n) (omega (arith, l))))

timed_some : (o : Option ℕ) (clock : ℕ) (t : ℤ) → IsLatest o clock t → is_some o ≡ true
timed_some None clock t h = absurd h
timed_some (Some s) clock t h = refl

-- so many of the calls before one after the first have a latest time
abbrev timed_before : List Call → ℕ → ℕ
timed_before calls j = count_by (λ c. is_some c.latest) (take j (drop 1 calls))

timed_at_call : (calls : List Call) (j : ℕ) → 1 ≤ j → j < length calls → is_some (call_at calls j).latest ≡ true → timed_before calls j ≡ timed_before calls (j - 1) + 1
timed_at_call calls j some l given =
    let same : (j - 1) + 1 ≡ j = omega arith in
    let other : 1 + (j - 1) ≡ j = omega arith in
    let call : get_or (drop 1 calls) (j - 1) no_call ≡ call_at calls j = get_or_after_one calls (j - 1) no_call ∙ ap (λ (k : ℕ). get_or calls k no_call) other in
    subst (λ (k : ℕ). timed_before calls k ≡ timed_before calls (j - 1) + 1) same
    (count_by_more_yes (λ c. is_some c.latest) (drop 1 calls) (j - 1) no_call (omega (arith, length-drop 1 calls)) (ap (λ (c : Call). is_some c.latest) call ∙ given))

counted : (calls : List Call) (start clock : ℕ) (places : List ℕ) (ts : List Timing) → CallsRise calls → Rising places → (call_at calls 0).place ≤ start →
    AreTimings calls start clock places ts → ((h : ℕ) → h < length ts → (get_or ts h no_timing).point < length places) →
    (n : ℕ) → n < length ts → (j : ℕ) × (j < length calls) × (get_or places (get_or ts n no_timing).point 0 ≡ (call_at calls j).place) × (n + 1 ≤ timed_before calls j)
counted calls start clock places ts rise rising begun t within zero l =
    let (j, there, after, stands, latest) = t.each 0 l in
    let some : 1 ≤ j = elim (cases_lt 0 j) [ inl b ↦ omega (arith, b) | inr g ↦ (let e : j ≡ 0 = omega (arith, g) in absurd (omega (arith, after, begun, ap (λ (k : ℕ). (call_at calls k).place) e))) ] in
    (j, there, stands, omega (arith, timed_at_call calls j some there (timed_some (call_at calls j).latest clock (get_or ts 0 no_timing).latest latest)))
counted calls start clock places ts rise rising begun t within (suc n) l =
    let last : n + 1 ≡ suc n = omega arith in
    let (i, there, stands, count) = counted calls start clock places ts rise rising begun t within n (omega (arith, l)) in
    let (j, beyond, after, at, latest) = t.each (suc n) l in
    let points : (get_or ts n no_timing).point < (get_or ts (suc n) no_timing).point = subst (λ (k : ℕ). (get_or ts n no_timing).point < (get_or ts k no_timing).point) last (t.rise n (omega (arith, l, last))) in
    let above = places_rise places rising (get_or ts n no_timing).point (get_or ts (suc n) no_timing).point points (within (suc n) l) in
    let order : i < j = elim (cases_lt i j) [
      | inl b ↦ b
      | inr g ↦ elim (cases_eq i j) [
        | inl e ↦ absurd (omega (arith, above, stands, at, ap (λ (k : ℕ). (call_at calls k).place) e))
        | inr ne ↦ absurd (omega (arith, above, stands, at, calls_rise calls rise j i (omega (arith, g, ne)) there))
      ]
    ] in
    let fill : i + (j - 1 - i) ≡ j - 1 = omega (arith, order) in
    let rest : timed_before calls i ≤ timed_before calls (j - 1) =
    subst (λ (k : ℕ). timed_before calls i ≤ timed_before calls k) fill (more (drop 1 calls) i (j - 1 - i) (omega (arith, fill, beyond, length-drop 1 calls))) in
    (j, beyond, at, omega (arith, count, rest, timed_at_call calls j (omega (arith, order)) beyond (timed_some (call_at calls j).latest clock (get_or ts (suc n) no_timing).latest latest)))

-- no more than the calls after the first that have a latest time
pub few_timed : (calls : List Call) (start clock : ℕ) (places : List ℕ) (ts : List Timing) → CallsRise calls → Rising places → (call_at calls 0).place ≤ start →
    AreTimings calls start clock places ts → ((h : ℕ) → h < length ts → (get_or ts h no_timing).point < length places) → 1 ≤ length ts → length ts ≤ latest_count calls
few_timed calls start clock places ts rise rising begun t within some =
    let (j, there, stands, count) = counted calls start clock places ts rise rising begun t within (length ts - 1) (omega (arith, some)) in
    omega (arith, some, count, sum_by-take-le (λ (c : Call). cond (is_some c.latest) 1 0) (drop 1 calls) j)

-- ---- the timing points with one set

-- a timing point stands at a place, and at that of a call where it has a latest time
abbrev Stands : List ℕ → List Timing → ℕ → Type 0
Stands places ts place = (h : ℕ) × (h < length ts) × (get_or places (get_or ts h no_timing).point 0 ≡ place)

abbrev IsTimedAt : List Call → List ℕ → List Timing → ℕ → Type 0
IsTimedAt calls places ts k = IfSome (call_at calls k).latest (λ _. Stands places ts (call_at calls k).place)

some_more : (o : Option ℕ) (P Q : Type 0) → (P → Q) → IfSome o (λ _. P) → IfSome o (λ _. Q)
some_more None P Q f h = h
some_more (Some s) P Q f h = f h

same_index : (places : List ℕ) → Rising places → (a b : ℕ) → a < length places → b < length places → get_or places a 0 ≡ get_or places b 0 → a ≡ b
same_index places rising a b l m e = elim (cases_lt a b) [
  | inl c ↦ absurd (omega (arith, e, places_rise places rising a b c m))
  | inr g ↦ elim (cases_lt b a) [
    | inl c ↦ absurd (omega (arith, e, places_rise places rising b a c l))
    | inr o ↦ omega (arith, g, o)
  ]
]

pub timings_set : (calls : List Call) (start clock j seconds p : ℕ) (places : List ℕ) (ts new : List Timing) (latest : ℤ) → CallsRise calls → Rising places →
    j < length calls → start < (call_at calls j).place → p < length places → get_or places p 0 ≡ (call_at calls j).place → latest ≡ pos (1000 * seconds) -ℤ pos (1000 * clock) →
    AreTimings calls start clock places ts → ((h : ℕ) → h < length ts → (get_or ts h no_timing).point < length places) → IsLatestSet ts p latest new →
    AreTimings (with_latest_call calls j seconds) start clock places new
timings_set calls start clock j seconds p places ts new latest rise rising there after within place value t all s =
    let b : List Call = with_latest_call calls j seconds in
    let a = alike calls j seconds there in
    let there_b : j < length b = omega (arith, there, a.count) in
    record {
      rise = s.rise;
      each = λ h l. elim (s.each h l) [
        | inl e ↦ subst (λ (x : Timing). IsTimingOf b start clock places x) (sym e)
            (j, there_b, omega (arith, after, a.place j), place ∙ sym (a.place j), subst (λ (c : Call). IsLatest c.latest clock latest) (sym (set_there calls j seconds there)) value)
        | inr (ne, g, m, e) ↦ (let (i, here, behind, stands, time) = t.each g m in
            let other : i ≢ j = λ same. ne (ap (λ (x : Timing). x.point) e
            ∙ same_index places rising (get_or ts g no_timing).point p (all g m) within (stands ∙ ap (λ (k : ℕ). (call_at calls k).place) same ∙ sym place)) in
            let call : call_at b i ≡ call_at calls i = set_other calls j seconds i other in
            subst (λ (x : Timing). IsTimingOf b start clock places x) (sym e)
            (i, omega (arith, here, a.count), omega (arith, behind, a.place i), stands ∙ sym (a.place i), subst (λ (c : Call). IsLatest c.latest clock (get_or ts g no_timing).latest) (sym call) time))
      ];
      every = λ i l behind. elim (cases_eq i j) [
        | inl same ↦ subst (λ (k : ℕ). IsTimedAt b places new k) (sym same)
            (subst (λ (c : Call). IfSome c.latest (λ _. Stands places new c.place)) (sym (set_there calls j seconds there)) (let (h, m, e) = s.set in (h, m, ap (λ (x : Timing). get_or places x.point 0) e ∙ place)))
        | inr other ↦ subst (λ (c : Call). IfSome c.latest (λ _. Stands places new c.place)) (sym (set_other calls j seconds i other))
            (some_more (call_at calls i).latest (Stands places ts (call_at calls i).place) (Stands places new (call_at calls i).place)
            (λ (g, m, e).
            let ne : (get_or ts g no_timing).point ≢ p = λ at. other (one_call calls rise i j (omega (arith, l, a.count)) there (sym e ∙ ap (λ (k : ℕ). get_or places k 0) at ∙ place)) in
            let (h, k, f) = s.kept g m ne in
            (h, k, ap (λ (x : Timing). get_or places x.point 0) f ∙ e))
            (t.every i (omega (arith, l, a.count)) (omega (arith, behind, a.place i))))
      ];
    }

-- ---- the service and the session

count_set : (calls : List Call) (j seconds : ℕ) → 1 ≤ j → j < length calls →
    latest_count (with_latest_call calls j seconds) + cond (is_some (call_at calls j).latest) 1 0 ≡ latest_count calls + 1
count_set [] j seconds some l = absurd (omega (arith, l))
count_set (c ∷ cs) zero seconds some l = absurd (omega (arith, some))
count_set (c ∷ cs) (suc i) seconds some l =
    sum_by-set (λ (x : Call). cond (is_some x.latest) 1 0) cs i (record (call_at (c ∷ cs) (suc i)) { latest = Some seconds }) no_call (omega (arith, l))

not_most : (a b : ℕ) → nat_le a b ≡ false → b < a
not_most a b h = grind (arith, nat_tests)

room : (o : Option ℕ) (n m : ℕ) → (is_none o && nat_le 64 n) ≡ false → m + cond (is_some o) 1 0 ≡ n + 1 → n ≤ 64 → m ≤ 64
room None n m h e l = omega (arith, not_most 64 n h, e)
room (Some s) n m h e l = omega (arith, e, l)

some_set : (calls : List Call) (j seconds k : ℕ) → j < length calls → IsSome (call_at calls k).latest → IsSome (call_at (with_latest_call calls j seconds) k).latest
some_set calls j seconds k there h = elim (cases_eq k j) [
  | inl e ↦ subst (λ (n : ℕ). IsSome (call_at (with_latest_call calls j seconds) n).latest) (sym e) (subst (λ (c : Call). IsSome c.latest) (sym (set_there calls j seconds there)) refl)
  | inr ne ↦ subst (λ (c : Call). IsSome c.latest) (sym (set_other calls j seconds k ne)) h
]

pub service_set : (service : Service) (j seconds : ℕ) → IsService service → 1 ≤ j → j < length service.calls → seconds ≤ 172800 → is_too_many service.calls j ≡ false →
    IsService (record { calls = with_latest_call service.calls j seconds })
service_set service j seconds h some there small free =
    let calls : List Call = service.calls in
    let b : List Call = with_latest_call calls j seconds in
    let a = alike calls j seconds there in
    let own = h.calls.each j there in
    record {
      calls = record {
        each = λ k l. elim (cases_eq k j) [
          | inl e ↦ subst (λ (n : ℕ). IsCall (call_at b n)) (sym e) (subst IsCall (sym (set_there calls j seconds there)) (record { place = own.place; dwell = own.dwell; latest = small }))
          | inr ne ↦ subst IsCall (sym (set_other calls j seconds k ne)) (h.calls.each k (omega (arith, l, a.count)))
        ];
        rising = λ k l. omega (arith, a.place k, a.place (k + 1), h.calls.rising k (omega (arith, l, a.count)));
      };
      some = omega (arith, a.count, h.some);
      few = omega (arith, a.count, h.few);
      final = subst (λ (n : ℕ). IsSome (call_at b (n - 1)).latest) (sym a.count) (some_set calls j seconds (length calls - 1) there h.final);
      latest = room (call_at calls j).latest (latest_count calls) (latest_count b) free (count_set calls j seconds some there) h.latest;
    }

pub timed_session : (line : Line) (train : Train) (service : Service) (step place speed clock : ℕ) (names : List (List ℕ)) (stretches : List Stretch) (r new : Rules) (j seconds p : ℕ) (latest : ℤ) →
    IsSession (state_of line train service step place speed clock names stretches r) → IsShaped r →
    j < length service.calls → place < (call_at service.calls j).place → seconds ≤ 172800 → is_too_many service.calls j ≡ false →
    p < length r.places → get_or r.places p 0 ≡ (call_at service.calls j).place → latest ≡ pos (1000 * seconds) -ℤ pos (1000 * clock) →
    new ≡ with_latest_at r p latest → IsLatestSet r.timings p latest new.timings →
    IsSession (state_of line train (record { calls = with_latest_call service.calls j seconds }) step place speed clock names stretches new)
timed_session line train service step place speed clock names stretches r new j seconds p latest h shaped there after small free within stands value is set =
    let calls : List Call = service.calls in
    let b : List Call = with_latest_call calls j seconds in
    let a = alike calls j seconds there in
    let some : 1 ≤ j = elim (cases_lt 0 j) [ inl c ↦ omega (arith, c) | inr g ↦ (let e : j ≡ 0 = omega (arith, g) in absurd (omega (arith, after, h.setup.place.0, ap (λ (k : ℕ). (call_at calls k).place) e))) ] in
    let joined = h.rules.joined in
    let accepted = h.rules.accepted in
    let marks : marks_of line (record { calls = b }) ≡ marks_of line service =
    ap (λ (ps : List ℕ). (ps ++ map (λ s. s.to) line.limits) ++ map (λ s. s.to) line.gradients) (same_places calls j (record (call_at calls j) { latest = Some seconds }) refl) in
    let last : last_place b ≡ last_place calls = ap (λ (n : ℕ). (call_at b (n - 1)).place) a.count ∙ a.place (length calls - 1) in
    let set_is : IsLatestSet r.timings p latest (with_latest_at r p latest).timings = subst (λ (x : Rules). IsLatestSet r.timings p latest x.timings) is set in
    let all : (k : ℕ) → k < length r.timings → (get_or r.timings k no_timing).point < length r.places = λ k l. omega (arith, (shaped.timings k no_timing l).1, joined.steps_are) in
    record {
      line = h.line;
      train = h.train;
      service = service_set service j seconds h.service some there small free;
      setup = record { step = h.setup.step; place = (omega (arith, a.place 0, h.setup.place.0), omega (arith, last, h.setup.place.1)); speed = h.setup.speed; clock = h.setup.clock; stretches = h.setup.stretches };
      names = h.names;
      few = h.few;
      rules = subst (λ (x : Rules). Joins line train (record { calls = b }) (record { step = step; place = place; speed = speed; clock = clock; stretches = stretches }) x) (sym is) (record {
        joined = record {
          grid = rw (marks, last) joined.grid;
          start_is = joined.start_is;
          top_is = joined.top_is;
          traction_is = joined.traction_is;
          brake_is = joined.brake_is;
          length_is = joined.length_is;
          steps_are = joined.steps_are;
          each_step = joined.each_step;
          limits_are = joined.limits_are;
          each_limit = joined.each_limit;
          stops_are = joined.stops_are;
          dwells_are = joined.dwells_are;
          each_point = λ k l. same_point calls b r.places k _ _ a (joined.each_point k l);
          timings_are = timings_set calls place clock j seconds p r.places r.timings _ latest h.service.calls.rising joined.grid.rises there after within stands value joined.timings_are all set_is;
        };
        accepted = record {
          on_line = same_on_line line calls b a accepted.on_line;
          grid = rw (marks, last) accepted.grid;
          apart = same_apart calls b speed r.places a accepted.apart;
        };
        light = h.rules.light;
      });
    }

is_same : (a b : ℕ) → (a == b) ≡ true → a ≡ b
is_same a b h = grind (arith, nat_tests)

-- ---- the point of a call, and room for its latest time

pub call_point : (s : State) (j : ℕ) → IsSession s → j < length s.data_is.service.calls → s.data_is.setup.place < (call_at s.data_is.service.calls j).place →
    (m : ℕ) × (m < length s.rules_are.places) × (get_or s.rules_are.places m 0 ≡ (call_at s.data_is.service.calls j).place) × (1 ≤ m) × (m + 1 ≡ point_behind s.rules_are (call_at s.data_is.service.calls j).place)
call_point s j h there after =
    let places : List ℕ = s.rules_are.places in
    let place : ℕ = (call_at s.data_is.service.calls j).place in
    let grid = h.rules.joined.grid in
    let (m, l, e) = index_of _ _ _ _ places grid place (call_place s.data_is.line s.data_is.service s.data_is.setup j h.service there after) in
    let start = first_is _ _ _ _ places grid h.setup.place.1 in
    let some : 1 ≤ m = elim (cases_lt 0 m) [ inl c ↦ omega (arith, c) | inr g ↦ (let z : m ≡ 0 = omega (arith, g) in absurd (omega (arith, start, after, e, ap (λ (k : ℕ). get_or places k 0) z))) ] in (
      m,
      l,
      e,
      some,
      behind_at places place (m + 1) (omega (arith, l))
          (λ k b. omega (arith, e, places_not_above places grid.rises k m (omega (arith, b)) l))
          (λ n. omega (arith, e, grid.rises m n)),
    )

-- the point before the first one behind the call's place is the call's
pub point_found : (s : State) (j q : ℕ) (given : List Call) → IsSession s → j < length s.data_is.service.calls → s.data_is.setup.place < (call_at s.data_is.service.calls j).place →
    q ≡ point_behind s.rules_are (call_at given j).place → given ≡ s.data_is.service.calls →
    (1 ≤ q) × (1 ≤ q - 1) × (q - 1 < length s.rules_are.places) × (get_or s.rules_are.places (q - 1) 0 ≡ (call_at s.data_is.service.calls j).place)
point_found s j q given h there after is same =
    let (m, l, e, some, behind) = call_point s j h there after in
    let next : m + 1 ≡ q = behind ∙ sym (is ∙ ap (λ (cs : List Call). point_behind s.rules_are (call_at cs j).place) same) in
    let point : m ≡ q - 1 = omega (arith, next) in
    (omega (arith, next), omega (arith, point, some), omega (arith, point, l), sym (ap (λ (k : ℕ). get_or s.rules_are.places k 0) point) ∙ e)

-- a latest time in ms from the clock on, as it is computed
pub latest_is : (seconds clock : ℕ) (x y : ℤ) → x ≡ pos seconds → y ≡ pos clock → seconds ≤ 172800 → clock ≤ 172800 →
    to_z w64 (of_z w64 (pos 1000 *ℤ to_z w64 (of_z w64 (to_z w64 (of_z w64 x) -ℤ to_z w64 (of_z w64 y))))) ≡ pos (1000 * seconds) -ℤ pos (1000 * clock)
latest_is seconds clock x y e f small few =
    let first : to_z w64 (of_z w64 x) ≡ x = omega (arith, ints, e) in
    let second : to_z w64 (of_z w64 y) ≡ y = omega (arith, ints, f) in
    let less : to_z w64 (of_z w64 (x -ℤ y)) ≡ x -ℤ y = omega (arith, ints, e, f) in
    let whole : to_z w64 (of_z w64 (pos 1000 *ℤ (x -ℤ y))) ≡ pos 1000 *ℤ (x -ℤ y) = omega (arith, ints, e, f) in
    rw (first, second, less, whole) (omega (arith, ints, e, f))

room_by : (o : Option ℕ) (places : List ℕ) (ts : List Timing) (place p n : ℕ) (latest : ℤ) → Rising places → p < length places → get_or places p 0 ≡ place →
    ((h : ℕ) → h < length ts → (get_or ts h no_timing).point < length places) → IfSome o (λ _. Stands places ts place) → (is_none o && nat_le 64 n) ≡ false → length ts ≤ n → length ts ≤ 64 →
    length (with_latest ts p latest) ≤ 64
room_by None places ts place p n latest rising within stands all h free count most = omega (arith, count, not_most 64 n free, one_more_timing ts p latest)
room_by (Some s) places ts place p n latest rising within stands all (g, m, e) free count most =
    omega (arith, most, none_more ts p latest g m (same_index places rising (get_or ts g no_timing).point p (all g m) within (e ∙ sym stands)))

pub room_for : (s : State) (j p : ℕ) (latest : ℤ) → IsSession s → IsShaped s.rules_are → j < length s.data_is.service.calls → s.data_is.setup.place < (call_at s.data_is.service.calls j).place →
    is_too_many s.data_is.service.calls j ≡ false → p < length s.rules_are.places → get_or s.rules_are.places p 0 ≡ (call_at s.data_is.service.calls j).place →
    length (with_latest s.rules_are.timings p latest) ≤ 64
room_for s j p latest h shaped there after free within stands =
    let calls : List Call = s.data_is.service.calls in
    let joined = h.rules.joined in
    let all : (k : ℕ) → k < length s.rules_are.timings → (get_or s.rules_are.timings k no_timing).point < length s.rules_are.places = λ k l. omega (arith, (shaped.timings k no_timing l).1, joined.steps_are) in
    room_by (call_at calls j).latest s.rules_are.places s.rules_are.timings (call_at calls j).place p (latest_count calls) latest joined.grid.rises within stands all
    (joined.timings_are.every j there after) free
    (few_timed calls s.data_is.setup.place s.data_is.setup.clock s.rules_are.places s.rules_are.timings h.service.calls.rising joined.grid.rises h.setup.place.0 joined.timings_are all shaped.some_timings)
    shaped.few_timings

-- the call that stands at a place behind the train
pub call_there : (d : Data) (place j : ℕ) → Some j ≡ call_behind d place → (j < length d.service.calls) × (d.setup.place < place) × ((call_at d.service.calls j).place ≡ place)
call_there d place j h = elim (cases_lt d.setup.place place) [
  | inl before ↦ (let found : Some j ≡ call_at_place d.service.calls place = rw (lt-ltb d.setup.place place before) at h in
      let at = position-Some (λ c. c.place == place) d.service.calls j no_call (sym found) in
      (at.0, before, is_same (call_at d.service.calls j).place place at.1))
  | inr not ↦ absurd (cc (rw (le-ltb d.setup.place place not) at h))
]
