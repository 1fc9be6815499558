-- Calls, sections and places that rise.
use Rattle.std.proofs.Common.{ℕ, zero, suc, ◌≡◌, ◌<◌, ◌≤◌, ◌+◌, List, length, get_or, arith, inl, inr, add-one, ap}
use Rattle.std.proofs.lemmas.Bool.{cases_lt, cases_eq}
use Rattle.rail_specs.specs.declared.Timing.{Timing}
use Rattle.rail_specs.specs.Rules.{no_timing}
use Rattle.rule_parts.specs.Shaped.{Rises}
use Rattle.line_file.specs.declared.calls.Call.{Call}
use Rattle.line_file.specs.Shape.{call_at}
use Rattle.joined_rules.specs.JoinedParts.{Rising, CallsRise}

-- what rises from each to the next rises from each to each later one
rises_to : (f : ℕ → ℕ) (n : ℕ) → ((k : ℕ) → k + 1 < n → f k < f (k + 1)) → (i j : ℕ) → i < j → j < n → f i < f j
rises_to f n h i zero l m = absurd (omega arith)
rises_to f n h i (suc j) l m = elim (cases_eq i j) [
  | inl e ↦ (let s : f j < f (j + 1) = h j (omega arith) in let t : f i ≡ f j = ap f e in let u : f (j + 1) ≡ f (suc j) = ap f (add-one j) in omega (arith, s, t, u))
  | inr ne ↦ (let s : f j < f (j + 1) = h j (omega arith) in let u : f (j + 1) ≡ f (suc j) = ap f (add-one j) in omega (arith, s, u, rises_to f n h i j (omega arith) (omega arith)))
]

pub calls_rise : (calls : List Call) → CallsRise calls → (i j : ℕ) → i < j → j < length calls → (call_at calls i).place < (call_at calls j).place
calls_rise calls h = rises_to (λ k. (call_at calls k).place) (length calls) h

pub timings_rise : (timings : List Timing) → Rises timings → (i j : ℕ) → i < j → j < length timings → (get_or timings i no_timing).point < (get_or timings j no_timing).point
timings_rise timings h = rises_to (λ k. (get_or timings k no_timing).point) (length timings) h

pub places_rise : (places : List ℕ) → Rising places → (i j : ℕ) → i < j → j < length places → get_or places i 0 < get_or places j 0
places_rise places h = rises_to (λ k. get_or places k 0) (length places) h

-- a place below another of its list stands before it
pub places_order : (places : List ℕ) → Rising places → (i j : ℕ) → i < length places → get_or places i 0 < get_or places j 0 → i < j
places_order places h i j l m = elim (cases_lt i j) [
  | inl b ↦ b
  | inr g ↦ elim (cases_eq j i) [
    | inl e ↦ absurd (let s : get_or places j 0 ≡ get_or places i 0 = ap (λ (k : ℕ). get_or places k 0) e in omega (arith, s, m))
    | inr ne ↦ absurd (omega (arith, m, places_rise places h j i (omega arith) l))
  ]
]

-- a place that stands no later than another lies at or below it
pub places_not_above : (places : List ℕ) → Rising places → (i j : ℕ) → i ≤ j → j < length places → get_or places i 0 ≤ get_or places j 0
places_not_above places h i j l m = elim (cases_eq i j) [
  | inl e ↦ (let s : get_or places i 0 ≡ get_or places j 0 = ap (λ (k : ℕ). get_or places k 0) e in omega (arith, s))
  | inr ne ↦ omega (arith, places_rise places h i j (omega arith) m)
]
