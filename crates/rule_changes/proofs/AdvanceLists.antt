-- Lists whose front is taken out, and timing points that rise.
use Rattle.std.proofs.Common.{ℕ, zero, suc, ℤ, ◌≡◌, ◌<◌, ◌≤◌, ◌+◌, ◌∙◌, List, [], ◌∷◌, length, get_or, map, take, drop, ◌++◌, arith, inl, inr, ap, sym, refl}
use Rattle.std.proofs.lemmas.Bool.{cases_eq}
use Rattle.std.proofs.lemmas.List.{ext_get_or, length-map, length-drop, get_or-map, get_or-drop, drop_all, append-nil, take_all}
use Rattle.rail_specs.specs.declared.Timing.{Timing}
use Rattle.rail_specs.specs.Rules.{no_timing}
use Rattle.rule_parts.specs.Shaped.{Rises}
use Rattle.joined_rules.proofs.JoinedRising.{timings_rise}
use Rattle.rule_changes.specs.Advance.{AreTimingsFrom, timing_from}

-- a list that has at each index what a function makes of another's item there
pub mapped : {X : Type 0} (f : X → X) (xs ys : List X) (d : X) → length ys ≡ length xs → ((i : ℕ) → i < length xs → get_or ys i d ≡ f (get_or xs i d)) → ys ≡ map f xs
mapped f xs ys d count each = ext_get_or d ys (map f xs) (count ∙ sym (length-map xs f)) (λ i l. let there : i < length xs = omega (arith, count) in each i there ∙ sym (get_or-map f xs i d d there))

-- what a list of the same length leaves of another over which it is written
pub over : {X : Type 0} (n : ℕ) (xs ys : List X) → length ys ≡ length xs → n ≡ length xs → take n (ys ++ drop (length ys) xs) ≡ ys
over n xs ys count e =
    let none : drop (length ys) xs ≡ [] = drop_all (length ys) xs (omega (arith, count)) in
    rw (none, append-nil) (take_all n ys (omega (arith, count, e)))

-- a timing point no earlier than one behind a point lies behind it too
pub stays_ahead : (ts : List Timing) (k h i : ℕ) → Rises ts → h ≤ i → i < length ts → k < (get_or ts h no_timing).point → k < (get_or ts i no_timing).point
stays_ahead ts k h i rise l there ahead = elim (cases_eq h i) [
  | inl e ↦ (let same : (get_or ts h no_timing).point ≡ (get_or ts i no_timing).point = ap (λ (j : ℕ). (get_or ts j no_timing).point) e in omega (arith, same))
  | inr ne ↦ omega (arith, timings_rise ts rise h i (omega arith) there)
]

-- equal indices have equal items
pub same_at : {X : Type 0} (xs : List X) (i j : ℕ) (d : X) → i ≡ j → get_or xs i d ≡ get_or xs j d
same_at xs i j d e = ap (λ (k : ℕ). get_or xs k d) e

-- what is left of a list behind index k, with a new first item: its length, its first item and its later ones
pub left_count : {X : Type 0} (x : X) (k : ℕ) (xs ys : List X) → ys ≡ x ∷ drop (k + 1) xs → k < length xs → length ys + k ≡ length xs
left_count x k xs ys e l = rw e (omega (arith, length-drop (k + 1) xs))

pub left_first : {X : Type 0} (x : X) (k : ℕ) (xs ys : List X) (d : X) → ys ≡ x ∷ drop (k + 1) xs → get_or ys 0 d ≡ x
left_first x k xs ys d e = rw e refl

later_item : {X : Type 0} (x : X) (k : ℕ) (xs : List X) (i : ℕ) (d : X) → 1 ≤ i → get_or (x ∷ drop (k + 1) xs) i d ≡ get_or xs (k + i) d
later_item x k xs zero d l = absurd (omega arith)
later_item x k xs (suc i) d l = get_or-drop (k + 1) xs i d ∙ same_at xs (k + 1 + i) (k + suc i) d (omega arith)

pub left_later : {X : Type 0} (x : X) (k : ℕ) (xs ys : List X) (i : ℕ) (d : X) → ys ≡ x ∷ drop (k + 1) xs → 1 ≤ i → get_or ys i d ≡ get_or xs (k + i) d
left_later x k xs ys i d e l = rw e (later_item x k xs i d l)

-- the timing points behind a point: how many there are, and each of them
pub timed_count : (old new : List Timing) (k : ℕ) (later : ℤ) (a : AreTimingsFrom old k later new) → length new + a.count ≡ length old
timed_count old new k later a = omega (arith, a.passed.most, ap (λ (ts : List Timing). length ts) a.rest, length-map (drop a.count old) (timing_from k later), length-drop a.count old)

pub timed_at : (old new : List Timing) (k : ℕ) (later : ℤ) (a : AreTimingsFrom old k later new) (h : ℕ) → h < length new →
    get_or new h no_timing ≡ timing_from k later (get_or old (a.count + h) no_timing)
timed_at old new k later a h l =
    let there : h < length (drop a.count old) = omega (arith, timed_count old new k later a, length-drop a.count old) in
    ap (λ (ts : List Timing). get_or ts h no_timing) a.rest ∙ get_or-map (timing_from k later) (drop a.count old) h no_timing no_timing there
    ∙ ap (λ (t : Timing). timing_from k later t) (get_or-drop a.count old h no_timing)
