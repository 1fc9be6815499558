-- There is room for a latest time where the service has room for it.
use Rattle.std.proofs.Common.{ℕ, ℤ, zero, suc, ◌≡◌, ◌<◌, ◌≤◌, ◌+◌, ◌-◌, ◌∙◌, List, true, Option, Some, None, length, get_or, take, drop, length-drop, subst, sym, ap, arith, inl, inr, refl, add-one}
use Rattle.std.specs.Prelude.{count_by, is_some}
use Rattle.std.proofs.lemmas.Bool.{cases_Bool, cases_lt, cases_eq}
use Rattle.std.proofs.lemmas.Grind.{get_or_after_one}
use Rattle.std.proofs.lemmas.List.{get_or_past, take_all}
use Rattle.std.proofs.lemmas.List.Sums.{count_by_more_no, count_by_more_yes}
use Rattle.rail_specs.specs.declared.Timing.{Timing}
use Rattle.rail_specs.specs.Rules.{Rules, no_timing}
use Rattle.line_file.specs.declared.calls.Call.{Call}
use Rattle.line_file.specs.ServiceText.{latest_count, no_call}
use Rattle.line_file.specs.Shape.{call_at}
use Rattle.joined_rules.specs.Joined.{AreTimings, IsLatest}
use Rattle.joined_rules.specs.JoinedParts.{CallsRise, Rising}
use Rattle.joined_rules.proofs.JoinedRising.{calls_rise, places_rise}
use Rattle.rule_parts.specs.Shaped.{Rises}
use Rattle.rule_changes.specs.Latest.{HasRoom, IsLatestSet, IsPlaceOf, with_latest, with_latest_call}
use Rattle.rule_changes.proofs.LatestLists.{points_rise, replaced, replaced_is, inserted, inserted_is}
use Rattle.rule_changes.proofs.LatestJoined.{place_same, rise_same, timings_set}

-- ---- a point has a place among timing points

search_place : (ts : List Timing) (point n : ℕ) → Rises ts → n ≤ length ts → ((k : ℕ) → n ≤ k → k < length ts → point ≤ (get_or ts k no_timing).point) → (h : ℕ) × IsPlaceOf ts point h
search_place ts point zero rise within from = (0, record { within = omega arith; before = λ k l. absurd (omega (arith, l)); from = from })
search_place ts point (suc n) rise within from = elim (cases_lt (get_or ts n no_timing).point point) [
  | inl b ↦ (suc n, record { within = within; before = λ k l. (let up = points_rise ts rise k n no_timing (omega (arith, l)) (omega (arith, within)) in omega (arith, up, b)); from = from })
  | inr g ↦ search_place ts point n rise (omega (arith, within)) (λ k a l. elim (cases_eq n k) [
    | inl e ↦ (let same = ap (λ (i : ℕ). (get_or ts i no_timing).point) e in omega (arith, same, g))
    | inr ne ↦ from k (omega (arith, a, ne)) l
  ])
]

-- so the timing points with one set are the old ones and that one
pub set_is : (ts : List Timing) (point : ℕ) (latest : ℤ) → Rises ts → IsLatestSet ts point latest (with_latest ts point latest)
set_is ts point latest rise =
    let (h, at) = search_place ts point (length ts) rise (omega arith) (λ k a l. absurd (omega (arith, a, l))) in
    elim (cases_lt h (length ts)) [
      | inl b ↦ elim (cases_eq (get_or ts h no_timing).point point) [
        | inl e ↦ subst (IsLatestSet ts point latest) (sym (replaced ts point h latest rise at b e)) (replaced_is ts point h latest rise at b e)
        | inr ne ↦ (let absent : h < length ts → point < (get_or ts h no_timing).point = λ l. (let from = at.from h (omega arith) l in omega (arith, from, ne)) in
            subst (IsLatestSet ts point latest) (sym (inserted ts point h latest rise at absent)) (inserted_is ts point h latest rise at absent))
      ]
      | inr g ↦ (let absent : h < length ts → point < (get_or ts h no_timing).point = λ l. absurd (omega (arith, l, g)) in
          subst (IsLatestSet ts point latest) (sym (inserted ts point h latest rise at absent)) (inserted_is ts point h latest rise at absent))
    ]

-- ---- each timing point has a call of its own with a latest time

-- a call has a latest time
abbrev IsTimed : Call → Type 0
IsTimed c = is_some c.latest ≡ true

more_calls : (xs : List Call) (b : ℕ) → b < length xs → count_by (λ c. is_some c.latest) (take b xs) ≤ count_by (λ c. is_some c.latest) (take (suc b) xs)
more_calls xs b l =
    subst (λ (n : ℕ). count_by (λ c. is_some c.latest) (take b xs) ≤ count_by (λ c. is_some c.latest) (take n xs)) (add-one b) (elim (cases_Bool (is_some (get_or xs b no_call).latest)) [
      | inl s ↦ omega (arith, count_by_more_yes (λ (c : Call). is_some c.latest) xs b no_call l s)
      | inr s ↦ omega (arith, count_by_more_no (λ (c : Call). is_some c.latest) xs b no_call l s)
    ])

-- the first b calls have no fewer latest times than the first a, where a is at most b
count_rises : (xs : List Call) (a b : ℕ) → a ≤ b → b ≤ length xs → count_by (λ c. is_some c.latest) (take a xs) ≤ count_by (λ c. is_some c.latest) (take b xs)
count_rises xs a zero l m = (let e : a ≡ 0 = omega (arith, l) in let same = ap (λ (n : ℕ). count_by (λ (c : Call). is_some c.latest) (take n xs)) e in omega (arith, same))
count_rises xs a (suc b) l m = elim (cases_eq a (suc b)) [
  | inl e ↦ (let same = ap (λ (n : ℕ). count_by (λ (c : Call). is_some c.latest) (take n xs)) e in omega (arith, same))
  | inr ne ↦ (let before = count_rises xs a b (omega (arith, l, ne)) (omega (arith, m)) in let more = more_calls xs b (omega (arith, m)) in omega (arith, before, more))
]

-- a call with a latest time is one more of those after the first
counts_call : (calls : List Call) (c : ℕ) → 1 ≤ c → c < length calls → IsTimed (call_at calls c) →
    count_by (λ c. is_some c.latest) (take c (drop 1 calls)) ≡ count_by (λ c. is_some c.latest) (take (c - 1) (drop 1 calls)) + 1
counts_call calls c some l timed =
    let back : c - 1 + 1 ≡ c = omega (arith, some) in
    let ahead : 1 + (c - 1) ≡ c = omega (arith, some) in
    let call : get_or (drop 1 calls) (c - 1) no_call ≡ call_at calls c = get_or_after_one calls (c - 1) no_call ∙ ap (λ (k : ℕ). get_or calls k no_call) ahead in
    subst (λ (n : ℕ). count_by (λ c. is_some c.latest) (take n (drop 1 calls)) ≡ count_by (λ c. is_some c.latest) (take (c - 1) (drop 1 calls)) + 1) back
    (count_by_more_yes (λ (c : Call). is_some c.latest) (drop 1 calls) (c - 1) no_call (let long = length-drop 1 calls in omega (arith, long, l, some)) (ap (λ (k : Call). is_some k.latest) call ∙ timed))

latest_some : (o : Option ℕ) (clock : ℕ) (t : ℤ) → IsLatest o clock t → is_some o ≡ true
latest_some None clock t h = absurd h
latest_some (Some s) clock t h = refl

module _ (calls : List Call) (start clock : ℕ) (places : List ℕ) (ts : List Timing) (rise : CallsRise calls) (order : Rising places) (begins : (call_at calls 0).place ≤ start) (t : AreTimings calls start clock places ts) where
  -- the call of a timing point
  abbrev call_of : (h : ℕ) → h < length ts → ℕ
  call_of h l = (t.each h l).0

  after_first : (h : ℕ) (l : h < length ts) → 1 ≤ call_of h l
  after_first h l = elim (cases_eq (call_of h l) 0) [
    | inl e ↦ absurd (let same = ap (λ (n : ℕ). (call_at calls n).place) e in let after = (t.each h l).2 in omega (arith, same, after, begins))
    | inr ne ↦ omega (arith, ne)
  ]

  -- the call of a later timing point is a later call
  calls_follow : (h : ℕ) (l : h < length ts) (m : h + 1 < length ts) → call_of h l < call_of (h + 1) m
  calls_follow h l m =
      let (i, within, after, stands, _) = t.each h l in
      let (j, there, behind, at, _) = t.each (h + 1) m in
      let p : ℕ = (get_or ts h no_timing).point in
      let q : ℕ = (get_or ts (h + 1) no_timing).point in
      let next : p < q = t.rise h m in
      let in_range : q < length places = elim (cases_lt q (length places)) [ inl b ↦ b | inr past ↦ absurd (let z = get_or_past places q 0 past in omega (arith, z, at, behind)) ] in
      let up : get_or places p 0 < get_or places q 0 = places_rise places order p q next in_range in
      elim (cases_lt i j) [
        | inl b ↦ b
        | inr g ↦ elim (cases_lt j i) [
          | inl c ↦ absurd (let high = calls_rise calls rise j i c within in omega (arith, high, up, stands, at))
          | inr o ↦ absurd (let e : i ≡ j = omega (arith, g, o) in let same = ap (λ (n : ℕ). (call_at calls n).place) e in omega (arith, same, up, stands, at))
        ]
      ]

  timed_call : (h : ℕ) (l : h < length ts) → IsTimed (call_at calls (call_of h l))
  timed_call h l = latest_some (call_at calls (call_of h l)).latest clock (get_or ts h no_timing).latest (t.each h l).4

  counted : (h : ℕ) (l : h < length ts) → h + 1 ≤ count_by (λ c. is_some c.latest) (take (call_of h l) (drop 1 calls))
  counted zero = λ l.
      let one = counts_call calls (call_of 0 l) (after_first 0 l) (t.each 0 l).1 (timed_call 0 l) in
      omega (arith, one)
  counted (suc h) = subst (λ (n : ℕ). (l : n < length ts) → n + 1 ≤ count_by (λ c. is_some c.latest) (take (call_of n l) (drop 1 calls))) (add-one h) (λ m.
      let before : h < length ts = omega (arith, m) in
      let so_far = counted h before in
      let follow = calls_follow h before m in
      let c : ℕ = call_of (h + 1) m in
      let within : c < length calls = (t.each (h + 1) m).1 in
      let one = counts_call calls c (after_first (h + 1) m) within (timed_call (h + 1) m) in
      let long = length-drop 1 calls in
      let most = count_rises (drop 1 calls) (call_of h before) (c - 1) (omega (arith, follow)) (omega (arith, long, within)) in
      omega (arith, so_far, most, one))

  -- so there are no more timing points than calls after the first with a latest time
  pub few_timings : length ts ≤ latest_count calls
  few_timings = elim (cases_eq (length ts) 0) [
    | inl e ↦ omega (arith, e)
    | inr ne ↦ (let h : ℕ = length ts - 1 in
        let l : h < length ts = omega (arith, ne) in
        let so_far = counted h l in
        let long = length-drop 1 calls in
        let within : call_of h l < length calls = (t.each h l).1 in
        let most = count_rises (drop 1 calls) (call_of h l) (length (drop 1 calls)) (omega (arith, long, within)) (omega arith) in
        let whole = ap (λ (xs : List Call). count_by (λ (c : Call). is_some c.latest) xs) (take_all (length (drop 1 calls)) (drop 1 calls) (omega arith)) in
        omega (arith, so_far, most, whole))
  ]

-- there is room for the latest time of a call of joined rules
pub has_room : (r : Rules) (point : ℕ) (latest : ℤ) → HasRoom r point latest
has_room r point latest line train service setup j seconds is value few =
    let joined = is.joined.joined in
    let calls = service.calls in
    let timed = with_latest_call calls j seconds in
    let set = set_is r.timings point latest joined.timings_are.rise in
    let timings : AreTimings timed setup.place setup.clock r.places (with_latest r.timings point latest) =
    timings_set calls j seconds is.call setup.place setup.clock point latest r.places is.service_is.calls.rising joined.grid.rises is.behind is.at r.timings (with_latest r.timings point latest) value set joined.timings_are in
    let begins : (call_at timed 0).place ≤ setup.place = (let first = place_same calls j seconds is.call 0 in let low = is.setup_is.place.0 in omega (arith, first, low)) in
    let most = few_timings timed setup.place setup.clock r.places (with_latest r.timings point latest) (rise_same calls j seconds is.call is.service_is.calls.rising) joined.grid.rises begins timings in
    omega (arith, most, few)
