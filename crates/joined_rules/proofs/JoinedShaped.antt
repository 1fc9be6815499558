-- Joined rules have the shape of the rules of every run.
use Rattle.std.proofs.Common.{ℕ, ℤ, ◌≡◌, ◌<◌, ◌≤◌, ◌+◌, ◌-◌, ◌*◌, ◌∙◌, ◌==◌, List, Bool, true, false, Option, Some, None, length, get_or, subst, sym, ap, arith, inl, inr, refl, pos, negsuc}
use Rattle.std.specs.Prelude.{IfSome, IsSome, MatchBool}
use Rattle.std.specs.Int.RustNames.{unsigned_abs}
use Rattle.std.proofs.lemmas.Int.{ints}
use Rattle.std.proofs.lemmas.Bool.{cases_Bool, cases_lt, cases_eq, ne_eqb, eq-eqb, false≢true}
use Rattle.std.proofs.lemmas.List.{get_or_past}
use Rattle.std.proofs.lemmas.List.Elements.{All-from_get_or}
use Rattle.rail_specs.specs.declared.StepNumbers.{StepNumbers}
use Rattle.rail_specs.specs.declared.Timing.{Timing}
use Rattle.rail_specs.specs.declared.TrainNumbers.{TrainNumbers}
use Rattle.rail_specs.specs.Rules.{Rules, is_stop, step_at, no_timing}
use Rattle.rail_specs.specs.Step.{IsInRange, IsTrainInRange, HasSmallDrag}
use Rattle.rail_specs.specs.Table.{IsForceTable}
use Rattle.line_file.specs.declared.calls.Call.{Call}
use Rattle.line_file.specs.declared.sections.Section.{Section}
use Rattle.line_file.specs.declared.line.Line.{Line}
use Rattle.line_file.specs.declared.service.Service.{Service}
use Rattle.line_file.specs.Shape.{call_at, IsLine, IsService, AreCalls}
use Rattle.line_file.specs.ServiceText.{no_call}
use Rattle.train_file.specs.declared.train.Train.{Train}
use Rattle.train_file.specs.Shape.{IsTrain}
use Rattle.joined_rules.specs.declared.setup.Setup.{Setup}
use Rattle.joined_rules.specs.Joined.{IsJoined, IsSetup, IsStepOf, IsLeastLimit, IsPointOf, IsTimingOf, IsLatest, ForNone, IsTooGreat, marks_of, last_place}
use Rattle.joined_rules.specs.JoinedParts.{NoneClose}
use Rattle.rule_parts.specs.Shaped.{IsShaped}
use Rattle.joined_rules.proofs.JoinedGrid.{first_is, last_is, two_places, short_steps, place_at, place_high}
use Rattle.joined_rules.proofs.JoinedRising.{places_rise, timings_rise}
use Rattle.joined_rules.proofs.JoinedSteps.{value_low, value_high}
use Rattle.joined_rules.proofs.JoinedStops.{one_call}

-- a step of joined rules is in range
step_in_range : (line : Line) (train : Train) (s e : ℕ) (n : StepNumbers) → IsLine line → IsTrain train → s < e → e ≤ s + 1000 → IsStepOf train line.gradients s e n → IsInRange n
step_in_range line train s e n h t long short is = record {
  train = subst IsTrainInRange (sym is.train_is) t.numbers;
  metres = (omega (arith, is.metres, long), omega (arith, is.metres, short));
  gradient = (value_low (negsuc 999) (pos 1000) line.gradients h.gradients s e n.gradient is.gradient, value_high (negsuc 999) (pos 1000) line.gradients h.gradients s e n.gradient is.gradient);
}

-- its drag is small
step_light : (train : Train) (gradients : List Section) (s e : ℕ) (n : StepNumbers) → IsStepOf train gradients s e n → (10000 * train.inertia ≤ train.c * (e - s) → ⊥) → HasSmallDrag n
step_light train gradients s e n is light = elim (cases_lt (n.c * n.metres) (10000 * n.inertia)) [
  | inl b ↦ b
  | inr great ↦ absurd (light (let m : n.metres ≡ e - s = omega (arith, is.metres) in
      let inertia : n.inertia ≡ train.inertia = ap (λ (t : TrainNumbers). t.inertia) is.train_is in
      let product : n.c * n.metres ≡ train.c * (e - s) = ap (λ (t : TrainNumbers). t.c * n.metres) is.train_is ∙ ap (λ (x : ℕ). train.c * x) m in omega (arith, great, product, inertia)))
]

-- a limit is at most 12,000
low_limit : (line : Line) (service : Service) (setup : Setup) (metres s e v : ℕ) → IsLine line → IsSetup service setup → IsLeastLimit line.limits setup.stretches metres s e v → v ≤ 12000
low_limit line service setup metres s e v h u is = elim is.reached [
  | inl (k, l, m, at) ↦ omega (arith, ints, at, (h.limits.each k l).value.1)
  | inr (k, l, m, at) ↦ omega (arith, at, (u.stretches k l).limit.1)
]

-- the last point is a stop
last_stop : (calls : List Call) (places : List ℕ) (n : ℕ) (stop : Bool) (dwell : ℕ) → IsService (record { calls = calls }) → 1 ≤ n → get_or places n 0 ≡ last_place calls → IsPointOf calls places n stop dwell → stop ≡ true
last_stop calls places n stop dwell s some at is = elim (cases_lt is.at (length calls)) [
  | inl b ↦ (let last : length calls - 1 < length calls = omega (arith, b) in
      let e : is.at ≡ length calls - 1 = one_call calls s.calls.rising is.at (length calls - 1) b last ((is.call.call b).1 ∙ at) in
      let same : is.at + 1 ≡ length calls = omega (arith, e, b) in
      is.stop_is ∙ rw (eq-eqb (is.at + 1) (length calls) same) refl)
  | inr past ↦ (let some_calls : 2 ≤ length calls = s.some in absurd (is.call.none past some (length calls - 1) (omega (arith, some_calls)) (sym at)))
]

-- there is no dwell at the first point
first_dwell : (calls : List Call) (places : List ℕ) (stop : Bool) (dwell : ℕ) → IsPointOf calls places 0 stop dwell → dwell ≡ 0
first_dwell calls places stop dwell is = elim (cases_lt is.at (length calls)) [
  | inl b ↦ absurd (omega (arith, (is.call.call b).0))
  | inr past ↦ (let call : call_at calls is.at ≡ no_call = get_or_past calls is.at no_call past in
      let last : (is.at + 1 == length calls) ≡ false = ne_eqb (is.at + 1) (length calls) (λ e. omega (arith, e, past)) in
      is.dwell_is ∙ rw (last, call) refl)
]

-- no step begins and ends at a standstill
moving : (stops : List Bool) (start n i v0 v1 : ℕ) → NoneClose stops start n → i < n → (i ≡ 0 → v0 ≡ start) → (1 ≤ i → MatchBool (get_or stops i false) (v0 ≡ 0) (1 ≤ v0)) → MatchBool (get_or stops (i + 1) false) (v1 ≡ 0) (1 ≤ v1) → 1 ≤ v0 + v1
moving stops start n i v0 v1 none l first entry exit = elim (cases_Bool (get_or stops (i + 1) false)) [
  | inr passes ↦ (let fast : 1 ≤ v1 = subst (λ (b : Bool). MatchBool b (v1 ≡ 0) (1 ≤ v1)) passes exit in omega (arith, fast))
  | inl stops_next ↦ elim (cases_eq i 0) [
    | inl zero_is ↦ elim (cases_eq start 0) [
      | inl stands ↦ absurd (none i l (stops_next, inr (zero_is, stands)))
      | inr rolls ↦ (let same : v0 ≡ start = first zero_is in omega (arith, same, rolls))
    ]
    | inr after ↦ elim (cases_Bool (get_or stops i false)) [
      | inr passes ↦ (let fast : 1 ≤ v0 = subst (λ (b : Bool). MatchBool b (v0 ≡ 0) (1 ≤ v0)) passes (entry (omega (arith, after))) in omega (arith, fast))
      | inl stops_here ↦ absurd (none i l (stops_next, inl stops_here))
    ]
  ]
]

latest_small : (o : Option ℕ) (clock : ℕ) (t : ℤ) → IfSome o (λ s. s ≤ 172800) → clock ≤ 172800 → IsLatest o clock t → unsigned_abs t ≤ 172800000
latest_small None clock t h c e = absurd e
latest_small (Some s) clock t h c e = omega (arith, ints, h, c, e)

-- a timing point is a point after the first, with a latest time in range
timing_in : (calls : List Call) (start clock : ℕ) (places : List ℕ) (n : ℕ) (t : Timing) → AreCalls calls → clock ≤ 172800 → length places ≡ n + 1 → get_or places 0 0 ≡ start → IsTimingOf calls start clock places t →
    (1 ≤ t.point) × (t.point ≤ n) × (unsigned_abs t.latest ≤ 172800000)
timing_in calls start clock places n t h c count first (j, l, after, at, latest) = (
  elim (cases_eq t.point 0) [
    | inl e ↦ (let same : get_or places t.point 0 ≡ get_or places 0 0 = ap (λ (k : ℕ). get_or places k 0) e in absurd (omega (arith, same, first, at, after)))
    | inr ne ↦ omega (arith, ne)
  ],
  elim (cases_lt t.point (length places)) [
    | inl b ↦ omega (arith, b, count)
    | inr past ↦ absurd (omega (arith, at, after, get_or_past places t.point 0 past))
  ],
  latest_small (call_at calls j).latest clock t.latest (h.each j l).latest c latest,
)

some_of : (o : Option ℕ) (P : Type 0) → IsSome o → IfSome o (λ _. P) → P
some_of None P s h = absurd (false≢true s)
some_of (Some x) P s h = h

pub shaped : (line : Line) (train : Train) (service : Service) (setup : Setup) (r : Rules) → IsLine line → IsTrain train → IsService service → IsSetup service setup → IsJoined line train service setup r →
    length r.places ≤ 4001 → NoneClose r.stops setup.speed (length r.stops - 1) → ForNone (IsTooGreat train r.places) (length r.steps) →
    ((k : ℕ) → get_or r.dwells k 0 ≤ 7200000) → length r.timings ≤ 64 → IsShaped r
shaped line train service setup r h t s u j few apart light short few_timings =
    let calls = service.calls in
    let marks = marks_of line service in
    let n : ℕ = length r.steps in
    let step = setup.step in
    let from = setup.place in
    let to : ℕ = last_place calls in
    let g = j.grid in
    let span : from < to = u.place.1 in
    let two : 2 ≤ length r.places = two_places marks step from to r.places g span in
    let count : length r.places ≡ n + 1 = j.steps_are in
    let first : get_or r.places 0 0 ≡ from = first_is marks step from to r.places g span in
    let last : get_or r.places n 0 ≡ to = (let e : length r.places - 1 ≡ n = omega (arith, count) in subst (λ (k : ℕ). get_or r.places k 0 ≡ to) e (last_is marks step from to r.places g span)) in
    let last_there : length calls - 1 < length calls = omega (arith, s.some) in
    let in_points : (i : ℕ) → i < n → i + 1 < length r.places = λ i l. omega (arith, l, count) in
    let timed : (k : ℕ) → k < length r.timings → (1 ≤ (get_or r.timings k no_timing).point) × ((get_or r.timings k no_timing).point ≤ n) × (unsigned_abs (get_or r.timings k no_timing).latest ≤ 172800000) =
    λ k l. timing_in calls from setup.clock r.places n (get_or r.timings k no_timing) s.calls u.clock count first (j.timings_are.each k l) in
    let final : (k : ℕ) × (k < length r.timings) × (get_or r.places (get_or r.timings k no_timing).point 0 ≡ to) =
    some_of (call_at calls (length calls - 1)).latest ((k : ℕ) × (k < length r.timings) × (get_or r.places (get_or r.timings k no_timing).point 0 ≡ to)) s.final (j.timings_are.every (length calls - 1) last_there span) in
    record {
      some = omega (arith, two, count);
      few = omega (arith, few, count);
      top = omega (arith, j.top_is, t.traction.speeds);
      start = omega (arith, j.start_is, u.speed);
      traction_top = ap (λ (xs : List ℕ). length xs) j.traction_is ∙ sym j.top_is;
      brake_top = ap (λ (xs : List ℕ). length xs) j.brake_is ∙ sym t.tops ∙ sym j.top_is;
      traction = subst (λ (xs : List ℕ). IsForceTable xs) (sym j.traction_is) t.traction;
      brake = subst (λ (xs : List ℕ). IsForceTable xs) (sym j.brake_is) t.brake;
      short_train = omega (arith, j.length_is, t.short);
      numbers = λ i l. step_in_range line train (get_or r.places i 0) (get_or r.places (i + 1) 0) (step_at r i) h t (g.rises i (in_points i l))
          (omega (arith, u.step.1, short_steps marks step from to r.places g span (omega (arith, u.step.0)) i (in_points i l))) (j.each_step i l);
      small_drag = λ i l. step_light train line.gradients (get_or r.places i 0) (get_or r.places (i + 1) 0) (step_at r i) (j.each_step i l) (light i l);
      limits = j.limits_are;
      low_limits = λ i. elim (cases_lt i n) [
        | inl b ↦ low_limit line service setup train.length (get_or r.places i 0) (get_or r.places (i + 1) 0) (get_or r.limits i 0) h u (j.each_limit i b)
        | inr past ↦ (let over : length r.limits ≤ i = omega (arith, past, j.limits_are) in omega (arith, get_or_past r.limits i 0 over))
      ];
      places = count;
      far = λ k. elim (cases_lt k (length r.places)) [
        | inl b ↦ omega (arith, place_high marks step from to (get_or r.places k 0) span (place_at marks step from to r.places g k b), (s.calls.each (length calls - 1) last_there).place)
        | inr past ↦ omega (arith, get_or_past r.places k 0 past)
      ];
      metres = λ i l. (j.each_step i l).metres;
      stops = j.stops_are ∙ count;
      last_stop = last_stop calls r.places n (is_stop r n) (get_or r.dwells n 0) s (omega (arith, two, count)) last (j.each_point n (omega (arith, count)));
      dwells = j.dwells_are ∙ count;
      first_dwell = first_dwell calls r.places (is_stop r 0) (get_or r.dwells 0 0) (j.each_point 0 (omega (arith, two)));
      short_dwells = short;
      some_timings = omega (arith, final.1);
      few_timings = few_timings;
      rising = j.timings_are.rise;
      timings = All-from_get_or (λ x. (1 ≤ x.point) × (x.point ≤ length r.steps) × (unsigned_abs x.latest ≤ 172800000)) r.timings no_timing timed;
      last_timing =
          let k : ℕ = length r.timings - 1 in
          let there : k < length r.timings = omega (arith, final.1) in
          let whole : n ≤ (get_or r.timings final.0 no_timing).point = elim (cases_lt (get_or r.timings final.0 no_timing).point n) [
            | inl b ↦ absurd (omega (arith, final.2, last, places_rise r.places g.rises (get_or r.timings final.0 no_timing).point n b (omega (arith, count))))
            | inr o ↦ o
          ] in
          elim (cases_lt final.0 k) [
            | inl b ↦ omega (arith, whole, (timed k there).1, timings_rise r.timings j.timings_are.rise final.0 k b there)
            | inr o ↦ (let e : final.0 ≡ k = omega (arith, o, final.1) in
                let same : (get_or r.timings final.0 no_timing).point ≡ (get_or r.timings k no_timing).point = ap (λ (i : ℕ). (get_or r.timings i no_timing).point) e in omega (arith, same, whole, (timed k there).1))
          ];
      moving = λ i v0 v1 l start entry exit. moving r.stops setup.speed (length r.stops - 1) i v0 v1 apart (omega (arith, l, j.stops_are, count)) (λ e. start e ∙ j.start_is) entry exit;
    }
