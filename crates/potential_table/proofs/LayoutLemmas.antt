-- Reading the values of a point's cells in the list of all values.
use Rattle.std.proofs.Common.{ℕ, zero, suc, ◌≡◌, ◌<◌, ◌≤◌, ◌+◌, ◌-◌, ◌^◌, ◌∙◌, Option, Some, None, List, [], length, get_or, drop, ap, sym, subst, arith, length-drop, length-take}
use Rattle.std.specs.Prelude.{ℤ, IfSome}
use Rattle.std.specs.Int.RustNames.{unsigned_abs}
use Rattle.std.proofs.lemmas.List.{get_or_default, get_or-drop, get_or-take}
use Rattle.std.proofs.lemmas.List.FromFn.{length-map-range_with_len, get_or-map-range_with_len}
use Rattle.bound_specs.specs.Chains.{values_of, value_at}
use Rattle.potential_table.specs.Filling.{IsSumOf}
use Rattle.potential_table.specs.Layout.{part_of, values_in, IsLayout}

-- what a table of at most 4,000 steps holds is small
in_table : (n : ℕ) (p : Option ℤ) → n ≤ 4000 → IsSumOf n p → IfSome p (λ q. unsigned_abs q ≤ 2 ^ 98)
in_table n None few h = tt
in_table n (Some p) few h = omega (arith, few, h)

-- a list of starts never falls
pub never_falls : (starts : List ℕ) → ((k : ℕ) → k + 1 < length starts → get_or starts k 0 ≤ get_or starts (k + 1) 0)
    → (k m : ℕ) → k + m < length starts → get_or starts k 0 ≤ get_or starts (k + m) 0
never_falls starts h k zero lt = let e : k + 0 ≡ k = omega arith in omega (arith, ap (λ j. get_or starts j 0) e)
never_falls starts h k (suc m) lt =
    let e : k + suc m ≡ k + m + 1 = omega arith in
    omega (arith, never_falls starts h k m (omega arith), h (k + m) (omega arith), ap (λ j. get_or starts j 0) e)

module _ (starts : List ℕ) (values : List (Option ℤ)) (layout : IsLayout starts values) where
  -- the values of a point end inside the list
  ends_inside : (k : ℕ) → k < length starts → get_or starts k 0 ≤ length values
  ends_inside k lt =
      let e : k + (length starts - 1 - k) ≡ length starts - 1 = omega arith in
      omega (
        arith,
        never_falls starts layout.rises k (length starts - 1 - k) (omega arith),
        ap (λ j. get_or starts j 0) e,
        layout.last,
      )

  -- a list for each point
  pub points : length (values_in starts values) ≡ length starts - 1
  points = length-map-range_with_len (part_of starts values) 0 (length starts - 1)

  -- the list of a point
  values_of_point : (k : ℕ) → k + 1 < length starts → values_of (values_in starts values) k ≡ part_of starts values k
  values_of_point k lt = get_or-map-range_with_len (part_of starts values) 0 (length starts - 1) k k [] (omega arith) (omega arith)

  -- the values of a point end where those of the next one begin
  pub count : (k : ℕ) → k + 1 < length starts
      → get_or starts k 0 + length (values_of (values_in starts values) k) ≡ get_or starts (k + 1) 0
  count k lt =
      omega (
        arith,
        ap length (values_of_point k lt),
        length-take (get_or starts (k + 1) 0 - get_or starts k 0) (drop (get_or starts k 0) values),
        length-drop (get_or starts k 0) values,
        ends_inside (k + 1) lt,
        layout.rises k lt,
      )

  -- the value of a cell stands as far behind its point's start as the cell stands in its point
  pub value : (k c : ℕ) → k + 1 < length starts → c < length (values_of (values_in starts values) k)
      → value_at (values_in starts values) k c ≡ get_or values (get_or starts k 0 + c) None
  value k c lt in_point =
      let here : c < get_or starts (k + 1) 0 - get_or starts k 0 = omega (arith, count k lt) in
      ap (λ (vs : List (Option ℤ)). get_or vs c None) (values_of_point k lt)
      ∙ get_or-take (get_or starts (k + 1) 0 - get_or starts k 0) (drop (get_or starts k 0) values) c None here
      ∙ get_or-drop (get_or starts k 0) values c None

-- the same of what is seen of the list, where s is what was read of the starts
module _ (starts : List ℕ) (values : List (Option ℤ)) (view : List (List (Option ℤ))) (same : values_in starts values ≡ view)
    (layout : IsLayout starts values) (k : ℕ) (inside : k < length view) where
  -- a point has a start behind its own
  pub before_last : k + 1 < length starts
  before_last = omega (arith, ap length same, points starts values layout)

  -- what was read is the point's start
  start_read : (s : ℕ) → s ≡ get_or starts k s → s ≡ get_or starts k 0
  start_read s e = let lt : k < length starts = omega (arith, before_last) in e ∙ get_or_default starts k s 0 lt

  -- a cell's value stands inside the list
  pub place_inside : (s c : ℕ) → s ≡ get_or starts k s → c < length (values_of view k) → s + c < length values
  place_inside s c e lt =
      omega (
        arith,
        start_read s e,
        count starts values layout k before_last,
        ap (λ (v : List (List (Option ℤ))). length (values_of v k)) same,
        ends_inside starts values layout (k + 1) before_last,
      )

  -- what was read of the values, with none past their end
  value_read : (s c : ℕ) (v : Option ℤ) → s ≡ get_or starts k s → c < length (values_of view k) → v ≡ get_or values (s + c) v
      → v ≡ get_or values (s + c) None
  value_read s c v e lt g = g ∙ get_or_default values (s + c) v None (place_inside s c e lt)

  -- what was read of the values is the cell's value
  pub value_seen : (s c : ℕ) (v : Option ℤ) → s ≡ get_or starts k s → c < length (values_of view k)
      → v ≡ get_or values (s + c) v → v ≡ value_at view k c
  value_seen s c v e lt g =
      value_read s c v e lt g ∙ ap (λ j. get_or values (j + c) None) (start_read s e)
      ∙ sym (value starts values layout k c before_last
      (omega (arith, lt, ap (λ (w : List (List (Option ℤ))). length (values_of w k)) same)))
      ∙ ap (λ (w : List (List (Option ℤ))). value_at w k c) same

  -- what was read of the values is small
  pub small_seen : (s c : ℕ) (v : Option ℤ) → s ≡ get_or starts k s → c < length (values_of view k)
      → v ≡ get_or values (s + c) v → IfSome v (λ p. unsigned_abs p ≤ 2 ^ 98)
  small_seen s c v e lt g =
      let some : 0 < length starts - 1 = omega (arith, before_last) in
      let few : length starts - 1 - 1 - 0 ≤ 4000 = omega (arith, layout.few) in
      in_table (length starts - 1 - 1 - 0) v few (subst (IsSumOf (length starts - 1 - 1 - 0)) (sym (value_read s c v e lt g))
      (layout.small 0 (s + c) (omega arith) some (omega (arith, layout.first))))

  -- there are as many values at the point as from its start to the next one's
  pub width_seen : (s t : ℕ) → s ≡ get_or starts k s → t ≡ get_or starts (k + 1) t → t - s ≡ length (values_of view k)
  width_seen s t e g =
      let last : t ≡ get_or starts (k + 1) 0 = g ∙ get_or_default starts (k + 1) t 0 before_last in
      omega (arith, start_read s e, last, count starts values layout k before_last, ap (λ (v : List (List (Option ℤ))). length (values_of v k)) same)

  -- and the next one's start is no earlier
  pub starts_in_order : (s t : ℕ) → s ≡ get_or starts k s → t ≡ get_or starts (k + 1) t → s ≤ t
  starts_in_order s t e g =
      let last : t ≡ get_or starts (k + 1) 0 = g ∙ get_or_default starts (k + 1) t 0 before_last in
      omega (arith, start_read s e, last, layout.rises k before_last)

-- a table has at most 4,001 points
pub few_points : (starts : List ℕ) (values : List (Option ℤ)) (view : List (List (Option ℤ))) → values_in starts values ≡ view → IsLayout starts values
    → (n : ℕ) → length view ≡ n → n ≤ 4001
few_points starts values view same layout n e = omega (arith, layout.few, points starts values layout, ap length same, e)
