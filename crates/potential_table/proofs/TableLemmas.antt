-- Filling the table point by point backwards, and what a filled one is.
use Rattle.std.proofs.Common.{ℕ, zero, suc, ◌≡◌, ◌<◌, ◌≤◌, ◌+◌, ◌-◌, ◌*◌, ◌^◌, ◌∙◌, Option, Some, None, List, length, get_or, ap, sym, subst, arith, inl, inr, pos}
use Rattle.std.specs.Prelude.{ℤ, IfSome}
use Rattle.std.specs.Int.RustNames.{unsigned_abs}
use Rattle.std.proofs.lemmas.Int.{ints}
use Rattle.std.proofs.lemmas.Bool.{cases_lt}
use Rattle.std.proofs.lemmas.List.{get_or_past}
use Rattle.bound_specs.specs.declared.Cell.{Cell}
use Rattle.bound_specs.specs.Cells.{cells_of, cell_at}
use Rattle.bound_specs.specs.Chains.{plus, IsAtMost, IsSmall, IsLeastChain, AreCellCosts, ArePotentials, values_of, value_at}
use Rattle.bound_specs.specs.Renewal.{SameSteps, ArePotentialsFrom}
use Rattle.chain_duality.proofs.Orders.{if_some}
use Rattle.chain_duality.proofs.Lists.{AreCellsOfPoints}
use Rattle.potential_table.specs.Filling.{IsLeastOf, through, IsSumOf, IsSmallSum, AreSmallFrom, AreStarts, IsFilled, AreLinked, value_from}
use Rattle.potential_table.specs.Layout.{values_in, IsLayout}
use Rattle.potential_table.proofs.LayoutLemmas.{points, count, value}
use Rattle.potential_table.proofs.StartLemmas.{starts_rise, later}
use Rattle.potential_table.proofs.StepBack.{least_at_end, step_back}

-- ---- the least of some numbers

-- it is also the least of equal ones
pub least_same : (f g : ℕ → Option ℤ) (m : ℕ) (v : Option ℤ) → ((c : ℕ) → c < m → f c ≡ g c) → IsLeastOf f m v → IsLeastOf g m v
least_same f g m v e h = record {
  attained = if_some v (λ p. (c : ℕ) × (c < m) × (f c ≡ Some p)) (λ p. (c : ℕ) × (c < m) × (g c ≡ Some p)) (λ p r. (r.0, r.1, sym (e r.0 r.1) ∙ r.2)) h.attained;
  below = λ c l. subst (IsAtMost v) (e c l) (h.below c l);
}

-- it is as small as they are
least_sum : (f : ℕ → Option ℤ) (m n : ℕ) (v : Option ℤ) → IsLeastOf f m v → ((c : ℕ) → c < m → IsSumOf n (f c)) → IsSumOf n v
least_sum f m n None h small = tt
least_sum f m n (Some p) h small = subst (IsSumOf n) h.attained.2 (small h.attained.0 h.attained.1)

-- a link and a sum are a sum of one more
link_sum : (n : ℕ) (l v : Option ℤ) → IsSmall l → IsSumOf n v → IsSumOf (n + 1) (plus l v)
link_sum n None v h g = tt
link_sum n (Some l) None h g = tt
link_sum n (Some l) (Some v) h g = omega (arith, ints, h, g)

-- a sum of fewer is one of more
more_sum : (m n : ℕ) (v : Option ℤ) → m ≤ n → IsSumOf m v → IsSumOf n v
more_sum m n None le h = tt
more_sum m n (Some p) le h = omega (arith, h)

-- the values of a point on whose ways a link's cost is added are small
pub small_ways : (starts : List ℕ) (points : ℕ) (values : List (Option ℤ)) (i : ℕ) → points ≤ 4001 → i < points → AreSmallFrom starts points values i
    → (c : ℕ) → IsSmallSum (value_from values (get_or starts i 0) c)
small_ways starts points values i few lt small c =
    more_sum (points - 1 - i) 4000 (value_from values (get_or starts i 0) c) (omega (arith, few)) (small i (get_or starts i 0 + c) (omega arith) lt (omega arith))

-- ---- filling

module _ (low : ℕ → Cell → Cell → Option ℤ) (cells : List (List Cell)) (starts : List ℕ) (h : AreStarts starts cells)
    (values new : List (Option ℤ)) (i n : ℕ) (inside : n + 1 ≤ length cells) (lt : i < n)
    (here : (a : ℕ) → a < length (cells_of cells i)
    → IsLeastOf (through low i (cell_at cells i a) (cells_of cells (i + 1)) (value_from values (get_or starts (i + 1) 0)))
    (length (cells_of cells (i + 1))) (value_from new (get_or starts i 0) a))
    (kept : (j : ℕ) → get_or starts (i + 1) 0 ≤ j → get_or new j None ≡ get_or values j None) where
  -- the values of later points are as they were
  same_behind : (m c : ℕ) → i < m → m ≤ length cells → value_from new (get_or starts m 0) c ≡ value_from values (get_or starts m 0) c
  same_behind m c le within = kept (get_or starts m 0 + c) (omega (arith, later starts cells h (i + 1) m (omega (arith, le)) within))

  -- what is the least by the values as they were is the least by the new ones
  least_new : (m c : ℕ) → i ≤ m → m < n
      → IsLeastOf (through low m (cell_at cells m c) (cells_of cells (m + 1)) (value_from values (get_or starts (m + 1) 0))) (length (cells_of cells (m + 1))) (value_from new (get_or starts m 0) c)
      → IsLeastOf (through low m (cell_at cells m c) (cells_of cells (m + 1)) (value_from new (get_or starts (m + 1) 0))) (length (cells_of cells (m + 1))) (value_from new (get_or starts m 0) c)
  least_new m c le before =
      least_same (through low m (cell_at cells m c) (cells_of cells (m + 1)) (value_from values (get_or starts (m + 1) 0)))
      (through low m (cell_at cells m c) (cells_of cells (m + 1)) (value_from new (get_or starts (m + 1) 0)))
      (length (cells_of cells (m + 1))) (value_from new (get_or starts m 0) c)
      (λ d l. ap (plus (low m (cell_at cells m c) (cell_at cells (m + 1) d)))
      (sym (same_behind (m + 1) d (omega (arith, le)) (omega (arith, before, inside)))))

  -- one more point is filled
  pub filled_more : IsFilled low cells starts values (i + 1) n → IsFilled low cells starts new i n
  filled_more filled m c le before in_point = elim (cases_lt i m) [
    | inl more ↦ least_new m c le before
        (subst (IsLeastOf (through low m (cell_at cells m c) (cells_of cells (m + 1)) (value_from values (get_or starts (m + 1) 0))) (length (cells_of cells (m + 1))))
        (sym (same_behind m c more (omega (arith, before, inside)))) (filled m c (omega (arith, more)) before in_point))
    | inr ge ↦
        let e : i ≡ m = omega (arith, le, ge) in
        subst (λ (k : ℕ). c < length (cells_of cells k)
        → IsLeastOf (through low k (cell_at cells k c) (cells_of cells (k + 1)) (value_from new (get_or starts (k + 1) 0))) (length (cells_of cells (k + 1))) (value_from new (get_or starts k 0) c)) e
        (λ l. least_new i c (omega arith) lt (here c l)) in_point
  ]

  -- its values are as small as sums of the steps behind it are
  small_here : (real : ℕ → ℕ → ℕ → Option ℤ) → AreCellCosts n real low → AreCellsOfPoints cells → AreSmallFrom starts (length cells) values (i + 1)
      → (j : ℕ) → get_or starts i 0 ≤ j → j < get_or starts (i + 1) 0 → IsSumOf (length cells - 1 - i) (get_or new j None)
  small_here real laws known small j le l =
      let c : ℕ = j - get_or starts i 0 in
      let e : get_or starts i 0 + c ≡ j = omega arith in
      let at : i < length cells = omega (arith, lt, inside) in
      let in_point : c < length (cells_of cells i) = omega (arith, e, l, h.next i at) in
      let more : length cells - 1 - (i + 1) + 1 ≡ length cells - 1 - i = omega (arith, lt, inside) in
      subst (λ (k : ℕ). IsSumOf (length cells - 1 - i) (get_or new k None)) e
      (least_sum (through low i (cell_at cells i c) (cells_of cells (i + 1)) (value_from values (get_or starts (i + 1) 0)))
      (length (cells_of cells (i + 1))) (length cells - 1 - i) (value_from new (get_or starts i 0) c) (here c in_point)
      (λ d in_next. subst (λ (k : ℕ). IsSumOf k (through low i (cell_at cells i c) (cells_of cells (i + 1)) (value_from values (get_or starts (i + 1) 0)) d)) more
      (link_sum (length cells - 1 - (i + 1)) (low i (cell_at cells i c) (cell_at cells (i + 1) d)) (value_from values (get_or starts (i + 1) 0) d)
      (laws.small_low i (cell_at cells i c) (cell_at cells (i + 1) d) lt (known i c at in_point) (known (i + 1) d (omega (arith, lt, inside)) in_next))
      (small (i + 1) (get_or starts (i + 1) 0 + d) (omega arith) (omega (arith, lt, inside)) (omega arith)))))

  pub small_more : (real : ℕ → ℕ → ℕ → Option ℤ) → AreCellCosts n real low → AreCellsOfPoints cells → AreSmallFrom starts (length cells) values (i + 1)
      → AreSmallFrom starts (length cells) new i
  small_more real laws known small m j le within at = elim (cases_lt j (get_or starts (i + 1) 0)) [
    | inl before ↦ elim (cases_lt i m) [
      | inl more ↦ absurd (omega (arith, before, at, later starts cells h (i + 1) m (omega (arith, more)) (omega (arith, within))))
      | inr ge ↦
          let e : i ≡ m = omega (arith, le, ge) in
          subst (λ (k : ℕ). get_or starts k 0 ≤ j → IsSumOf (length cells - 1 - k) (get_or new j None)) e
          (λ from. small_here real laws known small j from before) at
    ]
    | inr past ↦ subst (IsSumOf (length cells - 1 - m)) (sym (kept j past)) (elim (cases_lt i m) [
      | inl more ↦ small m j (omega (arith, more)) within at
      | inr ge ↦ more_sum (length cells - 1 - (i + 1)) (length cells - 1 - m) (get_or values j None) (omega (arith, le, ge))
          (small (i + 1) j (omega arith) (omega (arith, lt, inside)) past)
    ])
  ]

-- ---- a filled table

module _ (cells : List (List Cell)) (few : length cells ≤ 4001) (starts : List ℕ) (h : AreStarts starts cells) (values : List (Option ℤ))
    (all : length values ≡ get_or starts (length cells) 0) (small : AreSmallFrom starts (length cells) values 0) where
  -- a table of small values is laid out as one
  pub layout_of : IsLayout starts values
  layout_of = record {
    some = omega (arith, h.points);
    few = omega (arith, h.points, few);
    first = h.first;
    rises = starts_rise starts cells h;
    last = let e : length starts - 1 ≡ length cells = omega (arith, h.points) in ap (λ k. get_or starts k 0) e ∙ sym all;
    small = let e : length cells ≡ length starts - 1 = omega (arith, h.points) in subst (λ (k : ℕ). AreSmallFrom starts k values 0) e small;
  }

  -- it has a list for each point, and a value for each cell
  pub points_of : length (values_in starts values) ≡ length cells
  points_of = omega (arith, points starts values layout_of, h.points)

  pub count_of : (k : ℕ) → k < length cells → length (values_of (values_in starts values) k) ≡ length (cells_of cells k)
  count_of k l = omega (arith, count starts values layout_of k (omega (arith, l, h.points)), h.next k l)

  -- the value of a cell stands as far behind its point's start as the cell in its point
  pub value_is : (k c : ℕ) → k < length cells → c < length (cells_of cells k)
      → value_at (values_in starts values) k c ≡ value_from values (get_or starts k 0) c
  value_is k c l in_point = value starts values layout_of k c (omega (arith, l, h.points)) (omega (arith, in_point, count_of k l))

  -- a filled table is linked
  pub linked_of : (low : ℕ → Cell → Cell → Option ℤ) (k : ℕ) → k + 1 ≤ length cells → IsFilled low cells starts values 0 k → AreLinked low k cells (values_in starts values)
  linked_of low k inside filled m c before in_point =
      subst (IsLeastOf (through low m (cell_at cells m c) (cells_of cells (m + 1)) (value_at (values_in starts values) (m + 1))) (length (cells_of cells (m + 1))))
      (sym (value_is m c (omega (arith, before, inside)) in_point))
      (least_same (through low m (cell_at cells m c) (cells_of cells (m + 1)) (value_from values (get_or starts (m + 1) 0)))
      (through low m (cell_at cells m c) (cells_of cells (m + 1)) (value_at (values_in starts values) (m + 1)))
      (length (cells_of cells (m + 1))) (value_from values (get_or starts m 0) c)
      (λ d l. ap (plus (low m (cell_at cells m c) (cell_at cells (m + 1) d))) (sym (value_is (m + 1) d (omega (arith, before, inside)) l)))
      (filled m c (omega arith) before in_point))

-- ---- the last point

-- where the values of the last point are 0, they are as small as sums of no steps
pub last_small : (cells : List (List Cell)) (starts : List ℕ) (values : List (Option ℤ)) (n : ℕ) → length cells ≡ n + 1
    → ((j : ℕ) → get_or starts n 0 ≤ j → j < length values → get_or values j None ≡ Some (pos 0)) → AreSmallFrom starts (length cells) values n
last_small cells starts values n long set m j le l at = elim (cases_lt j (length values)) [
  | inl inside ↦
      let e : n ≡ m = omega (arith, le, l, long) in
      let from : get_or starts n 0 ≤ j = omega (arith, at, ap (λ k. get_or starts k 0) e) in
      subst (IsSumOf (length cells - 1 - m)) (sym (set j from inside)) (omega arith)
  | inr past ↦ subst (IsSumOf (length cells - 1 - m)) (sym (get_or_past values j None past)) tt
]

-- and are those of the least chains
pub last_least : (low : ℕ → Cell → Cell → Option ℤ) (cells : List (List Cell)) (values : List (List (Option ℤ))) (n : ℕ) → length cells ≡ n + 1
    → ((c : ℕ) → c < length (cells_of cells n) → value_at values n c ≡ Some (pos 0))
    → (j c : ℕ) → n ≤ j → j < length cells → c < length (cells_of cells j) → IsLeastChain low j cells (cell_at cells j c) (value_at values j c)
last_least low cells values n long set j c le l in_point =
    let e : n ≡ j = omega (arith, le, l, long) in
    subst (λ (k : ℕ). c < length (cells_of cells k) → IsLeastChain low k cells (cell_at cells k c) (value_at values k c)) e
    (λ at. subst (IsLeastChain low n cells (cell_at cells n c)) (sym (set c at)) (least_at_end low n cells (cell_at cells n c) (omega (arith, long)))) in_point

-- ---- potentials

-- links that have the same costs are linked as well
pub linked_same : (low whole : ℕ → Cell → Cell → Option ℤ) (k : ℕ) (cells : List (List Cell)) (values : List (List (Option ℤ)))
    → SameSteps k low whole → AreLinked low k cells values → AreLinked whole k cells values
linked_same low whole k cells values same h m c before in_point =
    least_same (through low m (cell_at cells m c) (cells_of cells (m + 1)) (value_at values (m + 1)))
    (through whole m (cell_at cells m c) (cells_of cells (m + 1)) (value_at values (m + 1)))
    (length (cells_of cells (m + 1))) (value_at values m c)
    (λ d l. ap (λ (p : Option ℤ). plus p (value_at values (m + 1) d)) (same m (cell_at cells m c) (cell_at cells (m + 1) d) before))
    (h m c before in_point)

module _ (low : ℕ → Cell → Cell → Option ℤ) (k : ℕ) (cells : List (List Cell)) (values : List (List (Option ℤ)))
    (inside : k + 1 ≤ length cells) (linked : AreLinked low k cells values)
    (behind : (j c : ℕ) → k ≤ j → j < length cells → c < length (cells_of cells j) → IsLeastChain low j cells (cell_at cells j c) (value_at values j c)) where
  -- so far before point k
  least_before : (far m c : ℕ) → m + far ≡ k → c < length (cells_of cells m) → IsLeastChain low m cells (cell_at cells m c) (value_at values m c)
  least_before zero m c at in_point = behind m c (omega (arith, at)) (omega (arith, at, inside)) in_point
  least_before (suc far) m c at in_point =
      step_back low m cells (cell_at cells m c) (value_at values (m + 1)) (value_at values m c) (omega (arith, at, inside))
      (λ d l. least_before far (m + 1) d (omega (arith, at)) l) (linked m c (omega (arith, at)) in_point)

  -- where the values from point k on are those of least chains, all are
  pub least_all : (m c : ℕ) → m < length cells → c < length (cells_of cells m) → IsLeastChain low m cells (cell_at cells m c) (value_at values m c)
  least_all m c within in_point = elim (cases_lt m k) [
    | inl before ↦ least_before (k - m) m c (omega (arith, before)) in_point
    | inr ge ↦ behind m c ge within in_point
  ]
