-- Lists of timing points that rise, taken apart at a point.
use Rattle.std.proofs.Common.{ℕ, ℤ, zero, suc, ◌≡◌, ◌≢◌, ◌<◌, ◌≤◌, ◌+◌, ◌-◌, ◌∙◌, ◌∷◌, [], List, Bool, true, false, length, get_or, set, take, drop, subst, sym, ap, arith, inl, inr, refl}
use Rattle.std.specs.Prelude.{nat_lt}
use Rattle.std.specs.List.{filter, insert}
use Rattle.std.specs.List.Sorted.{IsNonDecreasingBy}
use Rattle.std.proofs.lemmas.Bool.{cases_lt, cases_eq, lt-ltb, le-ltb}
use Rattle.std.proofs.lemmas.List.{get_or_default, get_or-set_same, get_or-set_other, length-set, set_split}
use Rattle.std.proofs.lemmas.List.Edits.{length-insert, get_or-insert_below, get_or-insert_at, get_or-insert_above}
use Rattle.std.proofs.lemmas.List.Sorted.{IsNonDecreasingBy-from_all_adjacent}
use Rattle.rail_specs.specs.declared.Timing.{Timing}
use Rattle.rail_specs.specs.Rules.{no_timing}
use Rattle.rule_parts.specs.Shaped.{Rises}
use Rattle.rule_changes.specs.Latest.{IsLatestSet, IsPlaceOf, with_latest}

-- the first elements, where just these pass a test
pub filter_front : {X : Type 0} (p : X → Bool) (d : X) (xs : List X) (h : ℕ) → ((k : ℕ) → k < h → p (get_or xs k d) ≡ true) → ((k : ℕ) → h ≤ k → k < length xs → p (get_or xs k d) ≡ false) → filter p xs ≡ take h xs
filter_front p d [] zero passes fails = refl
filter_front p d [] (suc h) passes fails = refl
filter_front p d (x ∷ xs) zero passes fails =
    let first : p x ≡ false = fails 0 (omega arith) (omega arith) in
    rw first (filter_front p d xs zero (λ k l. absurd (omega (arith, l))) (λ k a l. fails (suc k) (omega arith) (omega (arith, l))))
filter_front p d (x ∷ xs) (suc h) passes fails =
    let first : p x ≡ true = passes 0 (omega arith) in
    rw first (ap (λ (ys : List _). x ∷ ys) (filter_front p d xs h (λ k l. passes (suc k) (omega (arith, l))) (λ k a l. fails (suc k) (omega (arith, a)) (omega (arith, l)))))

-- the last elements, where just these pass a test
pub filter_back : {X : Type 0} (p : X → Bool) (d : X) (xs : List X) (h : ℕ) → ((k : ℕ) → k < h → k < length xs → p (get_or xs k d) ≡ false) → ((k : ℕ) → h ≤ k → k < length xs → p (get_or xs k d) ≡ true) → filter p xs ≡ drop h xs
filter_back p d [] zero fails passes = refl
filter_back p d [] (suc h) fails passes = refl
filter_back p d (x ∷ xs) zero fails passes =
    let first : p x ≡ true = passes 0 (omega arith) (omega arith) in
    rw first (ap (λ (ys : List _). x ∷ ys) (filter_back p d xs zero (λ k l. absurd (omega (arith, l))) (λ k a l. passes (suc k) (omega arith) (omega (arith, l)))))
filter_back p d (x ∷ xs) (suc h) fails passes =
    let first : p x ≡ false = fails 0 (omega arith) (omega arith) in
    rw first (filter_back p d xs h (λ k l m. fails (suc k) (omega (arith, l)) (omega (arith, m))) (λ k a l. passes (suc k) (omega (arith, a)) (omega (arith, l))))

-- timing points that rise from each to the next don't fall from any to a later one
pub points_rise : (ts : List Timing) → Rises ts → IsNonDecreasingBy (λ t. t.point) ts
points_rise ts h = IsNonDecreasingBy-from_all_adjacent (λ (t : Timing). t.point) ts (λ k d l.
    rw (get_or_default ts k d no_timing (omega (arith, l)), get_or_default ts (k + 1) d no_timing l) (let near = h k l in omega (arith, near)))

-- and they rise
later : (ts : List Timing) → Rises ts → (i j : ℕ) → i < j → j < length ts → (get_or ts i no_timing).point < (get_or ts j no_timing).point
later ts h i j l m =
    let near = h i (omega (arith, l, m)) in
    let on = points_rise ts h (i + 1) j no_timing (omega (arith, l)) m in
    omega (arith, near, on)

abbrev pub timing_of : ℕ → ℤ → Timing
timing_of point latest = record { point = point; latest = latest }

-- the timing points before the point
front_is : (ts : List Timing) (point h : ℕ) → IsPlaceOf ts point h → filter (λ t. nat_lt t.point point) ts ≡ take h ts
front_is ts point h at = filter_front (λ (t : Timing). nat_lt t.point point) no_timing ts h (λ k l. lt-ltb (get_or ts k no_timing).point point (at.before k l)) (λ k a l. le-ltb (get_or ts k no_timing).point point (at.from k a l))

module _ (ts : List Timing) (point h : ℕ) (latest : ℤ) (rise : Rises ts) (at : IsPlaceOf ts point h) where
  -- ---- where the point has a latest time

  -- the timing point at the place is replaced
  pub replaced : h < length ts → (get_or ts h no_timing).point ≡ point → with_latest ts point latest ≡ set ts h (timing_of point latest)
  replaced there is =
      let back : filter (λ t. nat_lt point t.point) ts ≡ drop (suc h) ts = filter_back (λ (t : Timing). nat_lt point t.point) no_timing ts (suc h)
      (λ k l m. le-ltb point (get_or ts k no_timing).point (let up = points_rise ts rise k h no_timing (omega (arith, l)) there in omega (arith, up, is)))
      (λ k a l. lt-ltb point (get_or ts k no_timing).point (let up = later ts rise h k (omega (arith, a)) l in omega (arith, up, is))) in
      rw (front_is ts point h at, back) (sym (set_split ts h (timing_of point latest) there))

  -- no other timing point stands at the point
  other : (k : ℕ) → h < length ts → (get_or ts h no_timing).point ≡ point → k < length ts → k ≢ h → (get_or ts k no_timing).point ≢ point
  other k there is l ne e = elim (cases_lt k h) [
    | inl b ↦ (let low = at.before k b in omega (arith, low, e))
    | inr g ↦ (let up = later ts rise h k (omega (arith, g, ne)) l in omega (arith, up, is, e))
  ]

  -- each point is as before
  same_point : (k : ℕ) → h < length ts → (get_or ts h no_timing).point ≡ point → (get_or (set ts h (timing_of point latest)) k no_timing).point ≡ (get_or ts k no_timing).point
  same_point k there is = elim (cases_eq k h) [
    | inl e ↦ subst (λ (j : ℕ). (get_or (set ts h (timing_of point latest)) j no_timing).point ≡ (get_or ts j no_timing).point) (sym e)
        (ap (λ (t : Timing). t.point) (get_or-set_same ts h (timing_of point latest) no_timing there) ∙ sym is)
    | inr ne ↦ ap (λ (t : Timing). t.point) (get_or-set_other ts h k (timing_of point latest) no_timing ne)
  ]

  pub replaced_is : h < length ts → (get_or ts h no_timing).point ≡ point → IsLatestSet ts point latest (set ts h (timing_of point latest))
  replaced_is there is =
      let t : Timing = timing_of point latest in
      let count : length (set ts h t) ≡ length ts = length-set ts h t in
      record {
        rise = λ k l. rw (same_point k there is, same_point (k + 1) there is) (rise k (omega (arith, l, count)));
        each = λ k l. elim (cases_eq k h) [
          | inl e ↦ inl (subst (λ (j : ℕ). get_or (set ts h t) j no_timing ≡ t) (sym e) (get_or-set_same ts h t no_timing there))
          | inr ne ↦ (let same = get_or-set_other ts h k t no_timing ne in
              let m : k < length ts = omega (arith, l, count) in
              inr (rw same (other k there is m ne), k, m, same))
        ];
        set = (h, omega (arith, there, count), get_or-set_same ts h t no_timing there);
        kept = λ k l apart. (k, omega (arith, l, count), get_or-set_other ts h k t no_timing (λ e. apart (ap (λ (j : ℕ). (get_or ts j no_timing).point) e ∙ is)));
      }

  -- ---- where it has none

  beyond : (h < length ts → point < (get_or ts h no_timing).point) → (k : ℕ) → h ≤ k → k < length ts → point < (get_or ts k no_timing).point
  beyond absent k a l = (let up = points_rise ts rise h k no_timing a l in let first = absent (omega (arith, a, l)) in omega (arith, up, first))

  -- a timing point is put in at the place
  pub inserted : (h < length ts → point < (get_or ts h no_timing).point) → with_latest ts point latest ≡ insert ts h (timing_of point latest)
  inserted absent =
      let back : filter (λ t. nat_lt point t.point) ts ≡ drop h ts = filter_back (λ (t : Timing). nat_lt point t.point) no_timing ts h
      (λ k l m. le-ltb point (get_or ts k no_timing).point (let low = at.before k l in omega (arith, low)))
      (λ k a l. lt-ltb point (get_or ts k no_timing).point (beyond absent k a l)) in
      rw (front_is ts point h at, back) refl

  pub inserted_is : (h < length ts → point < (get_or ts h no_timing).point) → IsLatestSet ts point latest (insert ts h (timing_of point latest))
  inserted_is absent =
      let t : Timing = timing_of point latest in
      let within = at.within in
      let count : length (insert ts h t) ≡ length ts + 1 = length-insert ts h t within in
      let here : get_or (insert ts h t) h no_timing ≡ t = get_or-insert_at ts h t no_timing within in
      let moved : (k : ℕ) → h < k → get_or (insert ts h t) k no_timing ≡ get_or ts (k - 1) no_timing = λ k a.
      let back : k - 1 + 1 ≡ k = omega (arith, a) in
      subst (λ (j : ℕ). get_or (insert ts h t) j no_timing ≡ get_or ts (k - 1) no_timing) back (get_or-insert_above ts h t no_timing (k - 1) (omega (arith, a)) within) in
      record {
        rise = λ k l. elim (cases_lt k h) [
          | inl b ↦ elim (cases_lt (k + 1) h) [
            | inl c ↦ rw (get_or-insert_below ts h t no_timing k b within, get_or-insert_below ts h t no_timing (k + 1) c within) (rise k (omega (arith, c, within)))
            | inr g ↦ (let e : h ≡ k + 1 = omega (arith, b, g) in
                subst (λ (j : ℕ). (get_or (insert ts h t) k no_timing).point < (get_or (insert ts h t) j no_timing).point) e
                (rw (get_or-insert_below ts h t no_timing k b within, here) (at.before k b)))
          ]
          | inr g ↦ elim (cases_eq k h) [
            | inl e ↦ (let first : point < (get_or ts h no_timing).point = absent (omega (arith, l, count, e)) in
                subst (λ (j : ℕ). (get_or (insert ts h t) j no_timing).point < (get_or (insert ts h t) (j + 1) no_timing).point) (sym e)
                (rw (here, get_or-insert_above ts h t no_timing h (omega arith) within) first))
            | inr ne ↦ rw (moved k (omega (arith, g, ne)), get_or-insert_above ts h t no_timing k (omega (arith, g)) within) (later ts rise (k - 1) k (omega (arith, g, ne)) (omega (arith, l, count)))
          ]
        ];
        each = λ k l. elim (cases_lt k h) [
          | inl b ↦ (let same = get_or-insert_below ts h t no_timing k b within in
              inr (rw same (λ e. (let low = at.before k b in omega (arith, low, e))), k, omega (arith, b, within), same))
          | inr g ↦ elim (cases_eq k h) [
            | inl e ↦ inl (subst (λ (j : ℕ). get_or (insert ts h t) j no_timing ≡ t) (sym e) here)
            | inr ne ↦ (let same = moved k (omega (arith, g, ne)) in
                let m : k - 1 < length ts = omega (arith, g, ne, l, count) in
                inr (rw same (λ e. (let up = beyond absent (k - 1) (omega (arith, g, ne)) m in omega (arith, up, e))), k - 1, m, same))
          ]
        ];
        set = (h, omega (arith, within, count), here);
        kept = λ k l apart. elim (cases_lt k h) [
          | inl b ↦ (k, omega (arith, l, count), get_or-insert_below ts h t no_timing k b within)
          | inr g ↦ (k + 1, omega (arith, l, count), get_or-insert_above ts h t no_timing k g within)
        ];
      }
