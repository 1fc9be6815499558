-- Nothing refuses the rules that a sample's line, train and service give together.
use Rattle.std.proofs.Common.{ℕ, zero, suc, ◌≡◌, ◌∙◌, ◌<◌, ◌≤◌, ◌+◌, ◌-◌, ◌*◌, ◌/◌, ◌%◌, ◌++◌, List, length, map, get_or, refl, sym, ap, subst, arith, inl, inr, All, Contains}
use Rattle.std.specs.List.{range_with_len}
use Rattle.std.proofs.lemmas.Bool.{cases_eq}
use Rattle.std.proofs.lemmas.List.{get_or_default, get_or-map}
use Rattle.std.proofs.lemmas.List.Elements.{All-contains, All-from_get_or, Contains-append_cases, Contains-get_or}
use Rattle.std.proofs.lemmas.List.FromFn.{get_or-map-range_with_len, length-map-range_with_len}
use Rattle.rail_specs.specs.Grid.{IsGrid, IsPlace}
use Rattle.line_file.specs.declared.calls.Call.{Call}
use Rattle.line_file.specs.declared.line.Line.{Line}
use Rattle.line_file.specs.declared.service.Service.{Service}
use Rattle.line_file.specs.declared.sections.Section.{Section}
use Rattle.line_file.specs.LineText.{no_section}
use Rattle.line_file.specs.Shape.{call_at}
use Rattle.train_file.specs.declared.train.Train.{Train}
use Rattle.joined_rules.specs.declared.setup.Setup.{Setup}
use Rattle.joined_rules.specs.declared.fault.RulesFault.{RulesFault}
use Rattle.joined_rules.specs.declared.fault.RulesFault.TheVariants as fault
use Rattle.joined_rules.specs.Joined.{IsTooClose, IsTooGreat, Refuses, marks_of}
use Rattle.joined_rules.proofs.JoinedRising.{places_not_above, places_order}
use Rattle.plan_files.specs.FreshRules.{fresh_setup}
use Rattle.sample_rules.proofs.LinePasses.{first, gradient_section, limit_section, sample_line}
use Rattle.sample_rules.proofs.ServiceSays.{sample_service}

abbrev calls : List Call
calls = sample_service.calls

-- the marks of a sample
abbrev marks : ℕ → List ℕ
marks n = marks_of (sample_line n) sample_service

-- call j stands at 10,000 j
call_place : (j : ℕ) → j < 5 → (call_at calls j).place ≡ 10000 * j
call_place zero h = refl
call_place (suc zero) h = refl
call_place (suc (suc zero)) h = refl
call_place (suc (suc (suc zero))) h = refl
call_place (suc (suc (suc (suc zero)))) h = refl
call_place (suc (suc (suc (suc (suc j))))) h = absurd (omega arith)

-- ---- the marks are multiples of 100

ends_at : (s : ℕ → Section) → ((b : ℕ) → (s b).to ≡ 1000 * (b + 1)) → All (λ m. m % 100 ≡ 0) (map (λ x. x.to) (first s 40))
ends_at s t =
    let xs = first s 40 in
    All-from_get_or (λ m. m % 100 ≡ 0) (map (λ (x : Section). x.to) xs) 0 each
  where
    each : (i : ℕ) → i < length (map (λ (x : Section). x.to) (first s 40)) → get_or (map (λ (x : Section). x.to) (first s 40)) i 0 % 100 ≡ 0
    each i h =
        let within : i < 40 = h in
        let at : get_or (map (λ (x : Section). x.to) (first s 40)) i 0 ≡ (get_or (first s 40) i no_section).to = get_or-map (λ (x : Section). x.to) (first s 40) i no_section 0 h in
        let here : get_or (first s 40) i no_section ≡ s i = get_or-map-range_with_len s 0 40 i i no_section within (omega arith) in
        let all : get_or (map (λ (x : Section). x.to) (first s 40)) i 0 ≡ 1000 * (i + 1) = at ∙ ap (λ (x : Section). x.to) here ∙ t i in
        rw all (omega arith)

calls_at : All (λ m. m % 100 ≡ 0) (map (λ (c : Call). c.place) calls)
calls_at = All-from_get_or (λ m. m % 100 ≡ 0) (map (λ (c : Call). c.place) calls) 0 each
  where
    each : (i : ℕ) → i < 5 → get_or (map (λ (c : Call). c.place) calls) i 0 % 100 ≡ 0
    each zero h = refl
    each (suc zero) h = refl
    each (suc (suc zero)) h = refl
    each (suc (suc (suc zero))) h = refl
    each (suc (suc (suc (suc zero)))) h = refl
    each (suc (suc (suc (suc (suc j))))) h = absurd (omega arith)

mark_is : (n m : ℕ) → Contains (marks n) m → m % 100 ≡ 0
mark_is n m h =
    let P : ℕ → Type 0 = λ m. m % 100 ≡ 0 in
    let cs = map (λ (c : Call). c.place) calls in
    let ls = map (λ (x : Section). x.to) (first (limit_section n) 40) in
    let gs = map (λ (x : Section). x.to) (first (gradient_section n) 40) in
    elim (Contains-append_cases (cs ++ ls) gs m h) [
      | inl a ↦ elim (Contains-append_cases cs ls m a) [
        | inl b ↦ All-contains P cs m calls_at b
        | inr b ↦ All-contains P ls m (ends_at (limit_section n) (λ b. refl)) b
      ]
      | inr a ↦ All-contains P gs m (ends_at (gradient_section n) (λ b. refl)) a
    ]

-- ---- the places

-- a place of the grid
place_is : (n p : ℕ) → IsPlace (marks n) 100 0 40000 p → (p % 100 ≡ 0) × (p ≤ 40000)
place_is n p (inl e) = (rw e refl, omega (arith, e))
place_is n p (inr (inl e)) = (rw e refl, omega (arith, e))
place_is n p (inr (inr (low, high, inl mark))) = (mark_is n p mark, omega arith)
place_is n p (inr (inr (low, high, inr multiple))) = (multiple, omega arith)

is_place : (n p : ℕ) → p % 100 ≡ 0 → p ≤ 40000 → IsPlace (marks n) 100 0 40000 p
is_place n p e h = elim (cases_eq p 0) [
  | inl z ↦ inl z
  | inr some ↦ elim (cases_eq p 40000) [
    | inl end ↦ inr (inl end)
    | inr less ↦ inr (inr (omega arith, omega arith, inr e))
  ]
]

-- the multiples of 100 up to 40,000
abbrev hundreds : List ℕ
hundreds = map (λ k. 100 * k) (range_with_len 0 401)

hundred_at : (k : ℕ) → k < 401 → get_or hundreds k 0 ≡ 100 * k
hundred_at k h = get_or-map-range_with_len (λ k. 100 * k) 0 401 k k 0 h (omega arith)

hundreds_count : length hundreds ≡ 401
hundreds_count = length-map-range_with_len (λ k. 100 * k) 0 401

hundreds-IsGrid : (n : ℕ) → IsGrid (marks n) 100 0 40000 hundreds
hundreds-IsGrid n = record { rises = rises; members = λ p. (there p, here p) }
  where
    rises : (k : ℕ) → k + 1 < length hundreds → get_or hundreds k 0 < get_or hundreds (k + 1) 0
    rises k h =
        let within : k + 1 < 401 = omega (arith, hundreds_count) in
        omega (arith, hundred_at k (omega arith), hundred_at (k + 1) within)

    there : (p : ℕ) → Contains hundreds p → IsPlace (marks n) 100 0 40000 p
    there p (k, h, e) =
        let within : k < 401 = omega (arith, hundreds_count) in
        let is : p ≡ 100 * k = sym e ∙ get_or_default hundreds k p 0 h ∙ hundred_at k within in
        is_place n p (rw is (omega arith)) (omega (arith, is))

    here : (p : ℕ) → IsPlace (marks n) 100 0 40000 p → Contains hundreds p
    here p is =
        let m = place_is n p is in
        let k : ℕ = p / 100 in
        let within : k < 401 = omega (arith, m.1) in
        let inside : k < length hundreds = omega (arith, hundreds_count) in
        let at : get_or hundreds k 0 ≡ p = hundred_at k within ∙ omega (arith, m.0) in
        subst (λ (q : ℕ). Contains hundreds q) at (Contains-get_or hundreds k 0 inside)

module _ (n : ℕ) (places : List ℕ) (grid : IsGrid (marks n) 100 0 40000 places) where
  -- a place that stands in the list
  place_at : (k : ℕ) → k < length places → (get_or places k 0 % 100 ≡ 0) × (get_or places k 0 ≤ 40000)
  place_at k h = place_is n (get_or places k 0) ((grid.members (get_or places k 0)).0 (Contains-get_or places k 0 h))

  -- places follow each other within 100 m
  near : (k : ℕ) → k + 1 < length places → 100 ≤ get_or places (k + 1) 0 → get_or places (k + 1) 0 ≤ get_or places k 0 + 100
  near k h low =
      let p : ℕ = get_or places (k + 1) 0 in
      let q : ℕ = p - 100 in
      let at = place_at (k + 1) h in
      let is : IsPlace (marks n) 100 0 40000 q = is_place n q (omega (arith, at.0)) (omega (arith, at.1)) in
      let (i, within, e) = (grid.members q).1 is in
      let there : get_or places i 0 ≡ q = sym (get_or_default places i q 0 within) ∙ e in
      let below : i < k + 1 = places_order places grid.rises i (k + 1) within (omega (arith, there)) in
      let up : get_or places i 0 ≤ get_or places k 0 = places_not_above places grid.rises i k (omega arith) (omega arith) in
      omega (arith, there, up)

  -- the first place is the start
  start : 0 < length places → get_or places 0 0 ≡ 0
  start some =
      let (i, within, e) = (grid.members 0).1 (inl refl) in
      let up = places_not_above places grid.rises 0 i (omega arith) within in
      omega (arith, up, e)

  -- stops are far apart
  far : (j : ℕ) → j < 5 → IsTooClose calls 0 places j → ⊥
  far j h (stop, k, within, at, close) =
      let p : ℕ = get_or places (k + 1) 0 in
      let is : p ≡ 10000 * j = at ∙ call_place j h in
      let rises : get_or places k 0 < p = grid.rises k within in
      let by = near k within (omega (arith, is, rises)) in
      elim close [
        | inl begin ↦ (let zero_at : get_or places k 0 ≡ 0 = ap (λ (i : ℕ). get_or places i 0) begin.0 ∙ start (omega arith) in omega (arith, by, is, rises, zero_at))
        | inr before ↦ (let (i, inside, place, stops) = before.1 in
            let other : get_or places k 0 ≡ 10000 * i = sym place ∙ call_place i inside in
            omega (arith, by, is, rises, other))
      ]

  -- the drag over each step is small
  light : (train : Train) → train.inertia ≡ 4200 → train.c ≡ 800 → (i : ℕ) → i < length places - 1 → IsTooGreat train places i → ⊥
  light train inertia c i h great =
      let at = place_at (i + 1) (omega arith) in
      let drag : 10000 * 4200 ≤ 800 * (get_or places (i + 1) 0 - get_or places i 0) = rw (inertia, c) at great in
      omega (arith, drag, at.1)

-- no refusal but want of memory
pub accepted : (n : ℕ) (train : Train) → train.inertia ≡ 4200 → train.c ≡ 800 → (f : RulesFault)
    → Refuses (sample_line n) train sample_service (fresh_setup sample_service 100) f → (f ≡ fault.NoMemory → ⊥) → ⊥
accepted n train inertia c (fault.Outside k) r sound =
    let at = r.1.holds in
    let place : (call_at calls (k - 1)).place ≡ 10000 * (k - 1) = call_place (k - 1) r.1.within in
    elim at [
      | inl low ↦ omega (arith, low)
      | inr high ↦ omega (arith, high, place, r.1.within)
    ]
accepted n train inertia c fault.TooManySteps r sound = omega (arith, r.1.many hundreds (hundreds-IsGrid n), hundreds_count)
accepted n train inertia c (fault.StopsTooClose k) (none, places, short, one, one_first) sound = far n places short.grid (k - 1) one_first.within one_first.holds
accepted n train inertia c (fault.DragTooGreat i) (places, accept, one_first) sound = light n places accept.grid.grid train inertia c i one_first.within one_first.holds
accepted n train inertia c fault.NoMemory r sound = sound refl

-- the same of what is read
pub never_refused : (n : ℕ) (line : Line) (train : Train) (service : Service) (setup : Setup) (f : RulesFault)
    → line ≡ sample_line n → train.inertia ≡ 4200 → train.c ≡ 800 → service ≡ sample_service → setup ≡ fresh_setup service 100
    → Refuses line train service setup f → (f ≡ fault.NoMemory → ⊥) → ⊥
never_refused n line train service setup f l inertia c s e r sound =
    let R : Line → Service → Setup → Type 0 = λ line service setup. Refuses line train service setup f in
    let at_setup = subst (λ (q : Setup). R line service q) e r in
    let at_service = subst (λ (q : Service). R line q (fresh_setup q 100)) s at_setup in
    let at_line = subst (λ (q : Line). R q sample_service (fresh_setup sample_service 100)) l at_service in
    accepted n train inertia c f at_line sound
