-- The timing points of the calls, as they are taken one after another.
use Rattle.std.proofs.Common.{ℕ, ◌≡◌, ◌<◌, ◌≤◌, ◌+◌, ◌-◌, ◌∙◌, List, [], ◌∷◌, ◌++◌, Option, Some, None, length, get_or, take, drop, subst, sym, ap, arith, inl, inr, length-append, length-drop, Contains, true}
use Rattle.std.specs.Prelude.{count_by, IfSome, is_some}
use Rattle.std.proofs.Math.ListN.{get_or-append}
use Rattle.std.proofs.Math.Seq.{get_or-append_seam}
use Rattle.std.proofs.lemmas.Bool.{cases_Bool, cases_lt, cases_eq}
use Rattle.std.proofs.lemmas.List.{get_or_default}
use Rattle.std.proofs.lemmas.List.Sums.{count_by_more_no, count_by_more_yes}
use Rattle.std.proofs.lemmas.Grind.{get_or_after_one}
use Rattle.line_file.specs.declared.calls.Call.{Call}
use Rattle.line_file.specs.Shape.{call_at}
use Rattle.line_file.specs.ServiceText.{no_call}
use Rattle.rail_specs.specs.declared.Timing.{Timing}
use Rattle.rail_specs.specs.Rules.{no_timing}
use Rattle.joined_rules.specs.Joined.{IsTimingOf, IsLatest}
use Rattle.joined_rules.specs.JoinedParts.{Rising, CallsRise}
use Rattle.rule_parts.specs.Shaped.{Rises}
use Rattle.joined_rules.proofs.JoinedLists.{pushed}
use Rattle.joined_rules.proofs.JoinedRising.{calls_rise, places_order, places_not_above}

-- the first place that isn't below one of the places is that place
pub at_place : (places : List ℕ) (k place : ℕ) → Rising places → ((j : ℕ) → j < k → get_or places j 0 < place) → k < length places → place ≤ get_or places k 0 → Contains places place → get_or places k 0 ≡ place
at_place places k place h before l at (m, there, e) =
    let same : get_or places m 0 ≡ place = get_or_default places m 0 place there ∙ e in
    elim (cases_lt m k) [
      | inl b ↦ absurd (omega (arith, same, before m b))
      | inr g ↦ omega (arith, same, at, places_not_above places h k m g there)
    ]

-- where call i has a latest time, a timing point stands at its place
abbrev pub IsTimed : List Call → List ℕ → List Timing → ℕ → Type 0
IsTimed calls places ts i = IfSome (call_at calls i).latest (λ _. (h : ℕ) × (h < length ts) × (get_or places (get_or ts h no_timing).point 0 ≡ (call_at calls i).place))

-- the timing points of the calls before call j, the last of them at or before this point
pub record TimedTo (calls : List Call) (places : List ℕ) (clock j point : ℕ) (ts : List Timing) : Type 0 where
  pub there : point < length places
  pub below : (i : ℕ) → j ≤ i → i < length calls → get_or places 0 0 < (call_at calls i).place → get_or places point 0 < (call_at calls i).place
  pub last : (h : ℕ) → h < length ts → (get_or ts h no_timing).point ≤ point
  pub rise : Rises ts
  pub each : (h : ℕ) → h < length ts → IsTimingOf calls (get_or places 0 0) clock places (get_or ts h no_timing)
  pub every : (i : ℕ) → i < j → i < length calls → get_or places 0 0 < (call_at calls i).place → IsTimed calls places ts i
  pub few : length ts ≤ count_by (λ c. is_some c.latest) (take (j - 1) (drop 1 calls))

some_more : (o : Option ℕ) (P Q : Type 0) → (P → Q) → IfSome o (λ _. P) → IfSome o (λ _. Q)
some_more None P Q f h = h
some_more (Some s) P Q f h = f h

one_more : (calls : List Call) (i : ℕ) → i < length calls → count_by (λ c. is_some c.latest) (take i calls) ≤ count_by (λ c. is_some c.latest) (take (i + 1) calls)
one_more calls i l = elim (cases_Bool (is_some (call_at calls i).latest)) [
  | inl s ↦ omega (arith, count_by_more_yes (λ c. is_some c.latest) calls i no_call l s)
  | inr s ↦ omega (arith, count_by_more_no (λ c. is_some c.latest) calls i no_call l s)
]

more_calls : (calls : List Call) (j : ℕ) → 1 ≤ j → j < length calls →
    count_by (λ c. is_some c.latest) (take (j - 1) (drop 1 calls)) ≤ count_by (λ c. is_some c.latest) (take (j + 1 - 1) (drop 1 calls))
more_calls calls j some l =
    let e : (j - 1) + 1 ≡ j + 1 - 1 = omega arith in
    subst (λ (k : ℕ). count_by (λ c. is_some c.latest) (take (j - 1) (drop 1 calls)) ≤ count_by (λ c. is_some c.latest) (take k (drop 1 calls))) e
    (one_more (drop 1 calls) (j - 1) (omega (arith, length-drop 1 calls)))

-- a call that gives no timing point
pub timed_none : (calls : List Call) (places : List ℕ) (clock j point : ℕ) (ts : List Timing) → 1 ≤ j → j < length calls →
    (get_or places 0 0 < (call_at calls j).place → (call_at calls j).latest ≡ None) →
    TimedTo calls places clock j point ts → TimedTo calls places clock (j + 1) point ts
timed_none calls places clock j point ts some l none h = record {
  there = h.there;
  below = λ i m n. h.below i (omega (arith, m)) n;
  last = h.last;
  rise = h.rise;
  each = h.each;
  every = λ i m n after. elim (cases_eq i j) [
    | inl same ↦ subst (λ (k : ℕ). IsTimed calls places ts k) (sym same) (subst (λ (o : Option ℕ). IfSome o (λ _. (h : ℕ) × (h < length ts) × (get_or places (get_or ts h no_timing).point 0 ≡ (call_at calls j).place))) (sym (none (subst (λ (k : ℕ). get_or places 0 0 < (call_at calls k).place) same after))) tt)
    | inr ne ↦ h.every i (omega (arith, m)) n after
  ];
  few = omega (arith, h.few, more_calls calls j some l);
}

rises_on : (ts us : List Timing) (t : Timing) → us ≡ ts ++ t ∷ [] → Rises ts → ((h : ℕ) → h < length ts → (get_or ts h no_timing).point < t.point) → Rises us
rises_on ts us t e rise above = subst Rises (sym e) (λ h l. elim (cases_lt (h + 1) (length ts)) [
  | inl b ↦ (let b0 : h < length ts = omega (arith, b) in rw (get_or-append ts (t ∷ []) no_timing h b0, get_or-append ts (t ∷ []) no_timing (h + 1) b) (rise h b))
  | inr g ↦ (let same : length ts ≡ h + 1 = omega (arith, l, length-append ts (t ∷ [])) in
      let b0 : h < length ts = omega (arith, same) in
      rw (get_or-append ts (t ∷ []) no_timing h b0) (subst (λ (k : ℕ). (get_or ts h no_timing).point < (get_or (ts ++ t ∷ []) k no_timing).point) same (rw (get_or-append_seam ts t [] no_timing) (above h b0))))
])

-- a call that gives a timing point
pub timed_one : (calls : List Call) (places : List ℕ) (clock j point p seconds : ℕ) (ts us : List Timing) (t : Timing) → 1 ≤ j → j < length calls →
    CallsRise calls → Rising places →
    get_or places 0 0 < (call_at calls j).place → (call_at calls j).latest ≡ Some seconds → IsLatest (Some seconds) clock t.latest →
    t.point ≡ p → p < length places → get_or places p 0 ≡ (call_at calls j).place → us ≡ ts ++ t ∷ [] →
    TimedTo calls places clock j point ts → TimedTo calls places clock (j + 1) p us
timed_one calls places clock j point p seconds ts us t some l rising places_rising after latest value at there place e h =
    let before : get_or places point 0 < get_or places p 0 = omega (arith, place, h.below j (omega arith) l after) in
    let beyond : point < p = places_order places places_rising point p h.there before in
    let stands : get_or places t.point 0 ≡ (call_at calls j).place = subst (λ (k : ℕ). get_or places k 0 ≡ (call_at calls j).place) (sym at) place in
    let seam : get_or us (length ts) no_timing ≡ t = subst (λ (zs : List Timing). get_or zs (length ts) no_timing ≡ t) (sym e) (get_or-append_seam ts t [] no_timing) in
    let count : length us ≡ length ts + 1 = subst (λ (zs : List Timing). length zs ≡ length ts + 1) (sym e) (omega (arith, length-append ts (t ∷ []))) in
    record {
      there = there;
      below = λ i m n a. omega (arith, place, calls_rise calls rising j i (omega (arith, m)) n);
      last = pushed (λ k u. u.point ≤ p) ts us t no_timing e (λ k b. omega (arith, h.last k b, beyond)) (omega (arith, at));
      rise = rises_on ts us t e h.rise (λ k b. omega (arith, h.last k b, beyond, at));
      each = pushed (λ k u. IsTimingOf calls (get_or places 0 0) clock places u) ts us t no_timing e h.each (j, l, after, stands, subst (λ (o : Option ℕ). IsLatest o clock t.latest) (sym latest) value);
      every = λ i m n a. elim (cases_eq i j) [
        | inl same ↦ subst (λ (k : ℕ). IsTimed calls places us k) (sym same) (subst (λ (o : Option ℕ). IfSome o (λ _. (h : ℕ) × (h < length us) × (get_or places (get_or us h no_timing).point 0 ≡ (call_at calls j).place))) (sym latest) (length ts, omega (arith, count), rw seam stands))
        | inr ne ↦ some_more (call_at calls i).latest ((h : ℕ) × (h < length ts) × (get_or places (get_or ts h no_timing).point 0 ≡ (call_at calls i).place)) ((h : ℕ) × (h < length us) × (get_or places (get_or us h no_timing).point 0 ≡ (call_at calls i).place))
            (λ (k, b, f). (k, omega (arith, b, count), rw (e, get_or-append ts (t ∷ []) no_timing k b) f)) (h.every i (omega (arith, m)) n a)
      ];
      few =
          let step : (j - 1) + 1 ≡ j + 1 - 1 = omega arith in
          let same : 1 + (j - 1) ≡ j = omega arith in
          let call : get_or (drop 1 calls) (j - 1) no_call ≡ call_at calls j = get_or_after_one calls (j - 1) no_call ∙ ap (λ (k : ℕ). get_or calls k no_call) same in
          let given : is_some (get_or (drop 1 calls) (j - 1) no_call).latest ≡ true = ap (λ (c : Call). is_some c.latest) call ∙ ap (λ (o : Option ℕ). is_some o) latest in
          subst (λ (k : ℕ). length us ≤ count_by (λ c. is_some c.latest) (take k (drop 1 calls))) step
          (omega (arith, h.few, count, count_by_more_yes (λ c. is_some c.latest) (drop 1 calls) (j - 1) no_call (omega (arith, length-drop 1 calls)) given));
    }
