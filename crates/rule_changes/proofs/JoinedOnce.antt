-- Joined rules are fixed by what they are joined from.
use Rattle.std.proofs.Common.{ℕ, ℤ, ◌≡◌, ◌<◌, ◌≤◌, ◌+◌, ◌∙◌, List, false, Option, Some, None, length, get_or, subst, sym, ap, arith, inl, inr, pos, negsuc}
use Rattle.std.specs.Prelude.{Contains, IfSome}
use Rattle.std.proofs.lemmas.Int.{ints}
use Rattle.std.proofs.lemmas.Bool.{cases_lt}
use Rattle.std.proofs.lemmas.List.{ext_get_or, get_or_default, get_or_past}
use Rattle.rail_specs.specs.declared.StepNumbers.{StepNumbers}
use Rattle.rail_specs.specs.declared.Timing.{Timing}
use Rattle.rail_specs.specs.declared.TrainNumbers.{TrainNumbers}
use Rattle.rail_specs.specs.Grid.{IsGrid}
use Rattle.rail_specs.specs.Rules.{Rules, is_stop, step_at, no_step, no_timing}
use Rattle.line_file.specs.declared.calls.Call.{Call}
use Rattle.line_file.specs.declared.line.Line.{Line}
use Rattle.line_file.specs.declared.sections.Section.{Section}
use Rattle.line_file.specs.declared.service.Service.{Service}
use Rattle.line_file.specs.Shape.{call_at, section_at, AreSections, IsLine, IsService}
use Rattle.train_file.specs.declared.train.Train.{Train}
use Rattle.joined_rules.specs.declared.setup.Setup.{Setup}
use Rattle.joined_rules.specs.declared.setup.Stretch.{Stretch}
use Rattle.joined_rules.specs.Joined.{AreTimings, IsCallAt, IsJoined, IsLatest, IsLeastLimit, IsPointOf, IsStepOf, LiesIn, dwell_of, is_stop_call}
use Rattle.joined_rules.specs.JoinedParts.{CallsRise, Rising}
use Rattle.joined_rules.proofs.JoinedRising.{places_rise}
use Rattle.joined_rules.proofs.JoinedSteps.{starts_rise}
use Rattle.joined_rules.proofs.JoinedStops.{one_call}
use Rattle.rule_changes.proofs.SameLists.{StandIn, same_rising}

-- ---- places

stand_in : (xs ys : List ℕ) → ((p : ℕ) → Contains xs p → Contains ys p) → StandIn (λ (p : ℕ). p) 0 xs ys
stand_in xs ys h k l =
    let c : Contains ys (get_or xs k 0) = h (get_or xs k 0) (k, l, get_or_default xs k (get_or xs k 0) 0 l) in
    (c.0, c.1, sym (get_or_default ys c.0 0 (get_or xs k 0) c.1 ∙ c.2))

same_places : (marks : List ℕ) (step from to : ℕ) (xs ys : List ℕ) → IsGrid marks step from to xs → IsGrid marks step from to ys → xs ≡ ys
same_places marks step from to xs ys a b =
    same_rising (λ (p : ℕ). p) 0 xs ys a.rises b.rises (stand_in xs ys (λ p c. (b.members p).1 ((a.members p).0 c))) (stand_in ys xs (λ p c. (a.members p).1 ((b.members p).0 c)))

-- ---- steps

-- a section ends at or below the start of a later one
ends_before : (low high : ℤ) (sections : List Section) → AreSections low high sections → (i j : ℕ) → i < j → j < length sections → (section_at sections i).to ≤ (section_at sections j).from
ends_before low high sections h i j l m =
    let next = h.follow i (omega (arith, l, m)) in
    let up = starts_rise low high sections h (i + 1) j (omega (arith, l)) m in
    omega (arith, next, up)

same_value : (low high : ℤ) (sections : List Section) (s e : ℕ) (v w : ℤ) → AreSections low high sections → s < e → LiesIn sections s e v → LiesIn sections s e w → v ≡ w
same_value low high sections s e v w h long (i, l, from, to, is) (j, m, begins, ends, it) =
    let same : i ≡ j = elim (cases_lt i j) [
      | inl b ↦ absurd (let before = ends_before low high sections h i j b m in omega (arith, before, begins, to, long))
      | inr g ↦ elim (cases_lt j i) [
        | inl b ↦ absurd (let before = ends_before low high sections h j i b l in omega (arith, before, from, ends, long))
        | inr o ↦ omega (arith, g, o)
      ]
    ] in
    is ∙ ap (λ (k : ℕ). (section_at sections k).value) same ∙ sym it

same_step : (line : Line) (train : Train) (s e : ℕ) (a b : StepNumbers) → IsLine line → s < e → IsStepOf train line.gradients s e a → IsStepOf train line.gradients s e b → a ≡ b
same_step line train s e a b h long x y =
    let t = x.train_is ∙ sym y.train_is in
    let mass = ap (λ (z : TrainNumbers). z.mass) t in
    let inertia = ap (λ (z : TrainNumbers). z.inertia) t in
    let first = ap (λ (z : TrainNumbers). z.a) t in
    let second = ap (λ (z : TrainNumbers). z.b) t in
    let third = ap (λ (z : TrainNumbers). z.c) t in
    let metres : a.metres ≡ b.metres = (let p = x.metres in let q = y.metres in omega (arith, p, q)) in
    let gradient = same_value (negsuc 999) (pos 1000) line.gradients s e a.gradient b.gradient h.gradients long x.gradient y.gradient in
    λ i. record { mass = mass i; inertia = inertia i; a = first i; b = second i; c = third i; metres = metres i; gradient = gradient i }

at_most : (sections : List Section) (stretches : List Stretch) (metres s e v w : ℕ) → IsLeastLimit sections stretches metres s e v → IsLeastLimit sections stretches metres s e w → v ≤ w
at_most sections stretches metres s e v w x y = elim y.reached [
  | inl (k, l, m, at) ↦ (let low = x.of_sections k l m in omega (arith, ints, low, at))
  | inr (k, l, m, at) ↦ (let low = x.of_stretches k l m in omega (arith, low, at))
]

-- ---- points

same_call : (calls : List Call) (places : List ℕ) (k i j : ℕ) → CallsRise calls → IsCallAt calls places k i → IsCallAt calls places k j → i ≡ j
same_call calls places k i j rise x y = elim (cases_lt i (length calls)) [
  | inl b ↦ elim (cases_lt j (length calls)) [
    | inl c ↦ one_call calls rise i j b c ((x.call b).1 ∙ sym (y.call c).1)
    | inr past ↦ absurd (y.none past (x.call b).0 i b (x.call b).1)
  ]
  | inr past ↦ elim (cases_lt j (length calls)) [
    | inl c ↦ absurd (x.none past (y.call c).0 j c (y.call c).1)
    | inr gone ↦ (let p = x.index in let q = y.index in omega (arith, past, gone, p, q))
  ]
]

-- ---- timing points

latest_once : (o : Option ℕ) (clock : ℕ) (t u : ℤ) → IsLatest o clock t → IsLatest o clock u → t ≡ u
latest_once None clock t u h g = absurd h
latest_once (Some s) clock t u h g = h ∙ sym g

some_latest : (o : Option ℕ) (clock : ℕ) (t : ℤ) (P : Type 0) → IsLatest o clock t → IfSome o (λ _. P) → P
some_latest None clock t P h g = absurd h
some_latest (Some s) clock t P h g = g

one_point : (places : List ℕ) (p q place start : ℕ) → Rising places → start < place → get_or places p 0 ≡ place → get_or places q 0 ≡ place → p ≡ q
one_point places p q place start order behind a b =
    let low : p < length places = elim (cases_lt p (length places)) [ inl m ↦ m | inr past ↦ absurd (let z = get_or_past places p 0 past in omega (arith, z, a, behind)) ] in
    let high : q < length places = elim (cases_lt q (length places)) [ inl m ↦ m | inr past ↦ absurd (let z = get_or_past places q 0 past in omega (arith, z, b, behind)) ] in
    elim (cases_lt p q) [
      | inl m ↦ absurd (let up = places_rise places order p q m high in omega (arith, up, a, b))
      | inr g ↦ elim (cases_lt q p) [
        | inl m ↦ absurd (let up = places_rise places order q p m low in omega (arith, up, a, b))
        | inr o ↦ omega (arith, g, o)
      ]
    ]

timings_stand : (calls : List Call) (start clock : ℕ) (places : List ℕ) (ts us : List Timing) → CallsRise calls → Rising places → AreTimings calls start clock places ts → AreTimings calls start clock places us →
    StandIn (λ (t : Timing). t.point) no_timing ts us
timings_stand calls start clock places ts us rise order x y k l =
    let (i, within, after, stands, latest) = x.each k l in
    let (h, there, at) = some_latest (call_at calls i).latest clock (get_or ts k no_timing).latest ((h : ℕ) × (h < length us) × (get_or places (get_or us h no_timing).point 0 ≡ (call_at calls i).place)) latest (y.every i within after) in
    let (j, inside, behind, place, value) = y.each h there in
    let same : i ≡ j = one_call calls rise i j within inside (sym at ∙ place) in
    let point : (get_or ts k no_timing).point ≡ (get_or us h no_timing).point = one_point places (get_or ts k no_timing).point (get_or us h no_timing).point (call_at calls i).place start order after stands at in
    let time : (get_or ts k no_timing).latest ≡ (get_or us h no_timing).latest = latest_once (call_at calls j).latest clock (get_or ts k no_timing).latest (get_or us h no_timing).latest (subst (λ (n : ℕ). IsLatest (call_at calls n).latest clock (get_or ts k no_timing).latest) same latest) value in
    (h, there, λ n. record { point = point n; latest = time n })

-- ---- the rules

pub joined_once : (line : Line) (train : Train) (service : Service) (setup : Setup) (r s : Rules) → IsLine line → IsService service → IsJoined line train service setup r → IsJoined line train service setup s → r ≡ s
joined_once line train service setup r s h u x y =
    let places : r.places ≡ s.places = same_places _ setup.step setup.place _ r.places s.places x.grid y.grid in
    let many = ap (λ (xs : List ℕ). length xs) places in
    let at : (k : ℕ) → get_or r.places k 0 ≡ get_or s.places k 0 = λ k. ap (λ (xs : List ℕ). get_or xs k 0) places in
    let start = x.start_is ∙ sym y.start_is in
    let top : r.top ≡ s.top = (let p = x.top_is in let q = y.top_is in omega (arith, p, q)) in
    let traction = x.traction_is ∙ sym y.traction_is in
    let brake = x.brake_is ∙ sym y.brake_is in
    let metres = x.length_is ∙ sym y.length_is in
    let count : length r.steps ≡ length s.steps = (let p = x.steps_are in let q = y.steps_are in omega (arith, p, q, many)) in
    let step_count = x.steps_are in
    let limit_count = x.limits_are in
    let other_count = y.limits_are in
    let steps : r.steps ≡ s.steps = ext_get_or no_step r.steps s.steps count (λ i l.
    same_step line train (get_or r.places i 0) (get_or r.places (i + 1) 0) (step_at r i) (step_at s i) h (x.grid.rises i (omega (arith, l, step_count))) (x.each_step i l)
    (subst (λ (xs : List ℕ). IsStepOf train line.gradients (get_or xs i 0) (get_or xs (i + 1) 0) (step_at s i)) (sym places) (y.each_step i (omega (arith, l, count))))) in
    let limits : r.limits ≡ s.limits = ext_get_or 0 r.limits s.limits (omega (arith, limit_count, other_count, count)) (λ i l.
    let a = x.each_limit i (omega (arith, l, limit_count)) in
    let b = subst (λ (xs : List ℕ). IsLeastLimit line.limits setup.stretches train.length (get_or xs i 0) (get_or xs (i + 1) 0) (get_or s.limits i 0)) (sym places) (y.each_limit i (omega (arith, l, limit_count, count))) in
    let low = at_most _ _ _ _ _ _ _ a b in
    let high = at_most _ _ _ _ _ _ _ b a in
    omega (arith, low, high)) in
    let points : (k : ℕ) → k < length s.places → IsPointOf service.calls r.places k (is_stop s k) (get_or s.dwells k 0) = λ k l.
    subst (λ (xs : List ℕ). IsPointOf service.calls xs k (is_stop s k) (get_or s.dwells k 0)) (sym places) (y.each_point k l) in
    let stop_count = x.stops_are in
    let stop_other = y.stops_are in
    let dwell_count = x.dwells_are in
    let dwell_other = y.dwells_are in
    let stops : r.stops ≡ s.stops = ext_get_or false r.stops s.stops (omega (arith, stop_count, stop_other, many)) (λ k l.
    let a = x.each_point k (omega (arith, l, stop_count)) in
    let b = points k (omega (arith, l, stop_count, many)) in
    let same : a.at ≡ b.at = same_call service.calls r.places k a.at b.at u.calls.rising a.call b.call in
    a.stop_is ∙ ap (λ (n : ℕ). is_stop_call service.calls n) same ∙ sym b.stop_is) in
    let dwells : r.dwells ≡ s.dwells = ext_get_or 0 r.dwells s.dwells (omega (arith, dwell_count, dwell_other, many)) (λ k l.
    let a = x.each_point k (omega (arith, l, dwell_count)) in
    let b = points k (omega (arith, l, dwell_count, many)) in
    let same : a.at ≡ b.at = same_call service.calls r.places k a.at b.at u.calls.rising a.call b.call in
    a.dwell_is ∙ ap (λ (n : ℕ). dwell_of service.calls n) same ∙ sym b.dwell_is) in
    let others : AreTimings service.calls setup.place setup.clock r.places s.timings = subst (λ (xs : List ℕ). AreTimings service.calls setup.place setup.clock xs s.timings) (sym places) y.timings_are in
    let timings : r.timings ≡ s.timings = same_rising (λ (t : Timing). t.point) no_timing r.timings s.timings x.timings_are.rise y.timings_are.rise
    (timings_stand service.calls setup.place setup.clock r.places r.timings s.timings u.calls.rising x.grid.rises x.timings_are others)
    (timings_stand service.calls setup.place setup.clock r.places s.timings r.timings u.calls.rising x.grid.rises others x.timings_are) in
    λ i. record {
      start = start i;
      top = top i;
      traction = traction i;
      brake = brake i;
      train_length = metres i;
      steps = steps i;
      limits = limits i;
      places = places i;
      stops = stops i;
      dwells = dwells i;
      timings = timings i;
    }
