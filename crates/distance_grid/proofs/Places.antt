-- What lists of places contain.
use Rattle.std.proofs.Common.{ℕ, zero, suc, ◌≡◌, ◌<◌, ◌≤◌, ◌+◌, ◌*◌, ◌/◌, ◌%◌, ◌↔◌, ◌⊎◌, inl, inr, List, [], ◌∷◌, ◌++◌, length, get_or, subst, sym, arith, Contains, ◌∙◌}
use Rattle.std.proofs.lemmas.Bool.{cases_eq, cases_lt}
use Rattle.std.proofs.lemmas.Nat.{div-add-mod', div_below, mul-le, mod-mul-add, mod_below}
use Rattle.std.proofs.lemmas.Grind.{div_ceil_times}
use Rattle.std.proofs.lemmas.List.{get_or_default}
use Rattle.std.specs.Int.{div_ceil}
use Rattle.std.proofs.Common.{nat_cmp}
use Rattle.std.specs.List.{dedup}
use Rattle.std.specs.List.Sorted.{IsPermutation, IsSorted}
use Rattle.std.proofs.lemmas.List.Sorted.{Contains-permutation, IsPermutation-sym}
use Rattle.std.proofs.lemmas.List.Kept.{Contains-dedup_nat, Contains-from_dedup}
use Rattle.std.proofs.lemmas.Map.Keys.{IsStrictlyIncreasing-dedup}
use lib.Dec.{eqb}
use Rattle.rail_specs.specs.Grid.{IsGrid}
use Rattle.std.proofs.lemmas.List.Elements.{Contains-append_left, Contains-push, Contains-push_cases}

-- the list has the old elements and those that Q tells
abbrev pub HasMore : List ℕ → List ℕ → (ℕ → Type 0) → Type 0
HasMore now old Q = (p : ℕ) → Contains now p ↔ (Contains old p ⊎ Q p)

-- one more element
pub push_member : (now old : List ℕ) (y : ℕ) (Q R : ℕ → Type 0) → HasMore now old Q → ((p : ℕ) → R p ↔ (Q p ⊎ (y ≡ p))) → HasMore (now ++ y ∷ []) old R
push_member now old y Q R h r p = (
  λ c. elim (Contains-push_cases now y p c) [
    | inl b ↦ elim ((h p).0 b) [ inl o ↦ inl o | inr q ↦ inr ((r p).1 (inl q)) ]
    | inr e ↦ inr ((r p).1 (inr e))
  ],
  λ c. elim c [
    | inl o ↦ Contains-append_left now (y ∷ []) p ((h p).1 (inl o))
    | inr s ↦ elim ((r p).0 s) [
      | inl q ↦ Contains-append_left now (y ∷ []) p ((h p).1 (inr q))
      | inr e ↦ subst (λ (x : ℕ). Contains (now ++ y ∷ []) x) e (Contains-push now y)
    ]
  ],
)

-- the same elements, told otherwise
pub retold : (now old : List ℕ) (Q R : ℕ → Type 0) → HasMore now old Q → ((p : ℕ) → R p ↔ Q p) → HasMore now old R
retold now old Q R h r p = (
  λ c. elim ((h p).0 c) [ inl o ↦ inl o | inr q ↦ inr ((r p).1 q) ],
  λ c. elim c [ inl o ↦ (h p).1 (inl o) | inr s ↦ (h p).1 (inr ((r p).0 s)) ],
)

-- p is a multiple j * step with j from a up to but not including k
abbrev pub IsMultiple : ℕ → ℕ → ℕ → ℕ → Type 0
IsMultiple step a k p = (j : ℕ) × (a ≤ j) × (j < k) × (j * step ≡ p)

pub next_multiple : (step a k : ℕ) → a ≤ k → (p : ℕ) → IsMultiple step a (k + 1) p ↔ (IsMultiple step a k p ⊎ (k * step ≡ p))
next_multiple step a k h p = (
  λ m. elim (cases_eq m.0 k) [
    | inl same ↦ inr (subst (λ (j : ℕ). j * step ≡ p) same m.3)
    | inr apart ↦ inl (m.0, m.1, omega (arith, m.2), m.3)
  ],
  λ c. elim c [
    | inl m ↦ (m.0, m.1, omega (arith, m.2), m.3)
    | inr e ↦ (k, h, omega arith, e)
  ],
)

below_by_factor : (a b k : ℕ) → a * k < b * k → a < b
below_by_factor a b k h = elim (cases_lt a b) [
  | inl l ↦ l
  | inr g ↦ absurd (omega (arith, mul-le b k a k g (let e : k ≤ k = omega arith in e)))
]

-- the multiples strictly between two places
pub multiples_between : (step from to : ℕ) → 1 ≤ step → (p : ℕ) →
    ((from < p) × (p < to) × (p % step ≡ 0)) ↔ IsMultiple step (from / step + 1) (div_ceil to step) p
multiples_between step from to some p = (
  λ h.
      let e : p / step * step ≡ p = omega (arith, div-add-mod' p step, h.2) in
      let low : from / step < p / step = div_below from step (p / step) some (omega (arith, e, h.0)) in
      let high : p / step < div_ceil to step = below_by_factor (p / step) (div_ceil to step) step (omega (arith, e, h.1, (div_ceil_times to step some).0)) in
      (p / step, omega (arith, low), high, e),
  λ m.
      let low : (from / step + 1) * step ≤ m.0 * step = mul-le (from / step + 1) step m.0 step m.1 (omega arith) in
      let high : (m.0 + 1) * step ≤ div_ceil to step * step = mul-le (m.0 + 1) step (div_ceil to step) step (omega (arith, m.2)) (omega arith) in (
        omega (arith, low, m.3, div-add-mod' from step, mod_below from step some),
        omega (arith, high, m.3, (div_ceil_times to step some).1),
        subst (λ (x : ℕ). x % step ≡ 0) m.3 (subst (λ (x : ℕ). x % step ≡ 0) (let z : m.0 * step + 0 ≡ m.0 * step = omega arith in z) (mod-mul-add m.0 step 0 some)),
      ),
)

-- the first multiple above the start is at most the first at or above the end
pub multiples_in_order : (step from to : ℕ) → 1 ≤ step → from < to → from / step + 1 ≤ div_ceil to step
multiples_in_order step from to some h =
    let l : from / step < div_ceil to step = below_by_factor (from / step) (div_ceil to step) step (omega (arith, div-add-mod' from step, h, (div_ceil_times to step some).0)) in
    omega (arith, l)

-- p is one of the first i marks, strictly between the ends
abbrev pub IsMark : List ℕ → ℕ → ℕ → ℕ → ℕ → Type 0
IsMark marks from to i p = (from < p) × (p < to) × (j : ℕ) × (j < i) × (get_or marks j 0 ≡ p)

pub next_mark : (marks : List ℕ) (from to i : ℕ) → from < get_or marks i 0 → get_or marks i 0 < to →
    (p : ℕ) → IsMark marks from to (i + 1) p ↔ (IsMark marks from to i p ⊎ (get_or marks i 0 ≡ p))
next_mark marks from to i a b p = (
  λ m. elim (cases_eq m.2 i) [
    | inl same ↦ inr (subst (λ (j : ℕ). get_or marks j 0 ≡ p) same m.4)
    | inr apart ↦ inl (m.0, m.1, m.2, omega (arith, m.3), m.4)
  ],
  λ c. elim c [
    | inl m ↦ (m.0, m.1, m.2, omega (arith, m.3), m.4)
    | inr e ↦ (omega (arith, e), omega (arith, e), i, omega arith, e)
  ],
)

pub passed_mark : (marks : List ℕ) (from to i : ℕ) → (from < get_or marks i 0 → get_or marks i 0 < to → ⊥) →
    (p : ℕ) → IsMark marks from to (i + 1) p ↔ IsMark marks from to i p
passed_mark marks from to i outside p = (
  λ m. elim (cases_eq m.2 i) [
    | inl same ↦ (let e : get_or marks i 0 ≡ p = subst (λ (j : ℕ). get_or marks j 0 ≡ p) same m.4 in absurd (outside (omega (arith, e, m.0)) (omega (arith, e, m.1))))
    | inr apart ↦ (m.0, m.1, m.2, omega (arith, m.3), m.4)
  ],
  λ m. (m.0, m.1, m.2, omega (arith, m.3), m.4),
)

pub marks_between : (marks : List ℕ) (from to p : ℕ) → ((from < p) × (p < to) × Contains marks p) ↔ IsMark marks from to (length marks) p
marks_between marks from to p = (
  λ h. (h.0, h.1, h.2.0, h.2.1, get_or_default marks h.2.0 0 p h.2.1 ∙ h.2.2),
  λ m. (m.0, m.1, (m.2, m.3, get_or_default marks m.2 p 0 m.3 ∙ m.4)),
)

only_member : (x p : ℕ) → Contains (x ∷ []) p → p ≡ x
only_member x p (zero, l, e) = sym e
only_member x p (suc k, l, e) = absurd (omega arith)

-- both ends, the multiples and the marks, sorted and each once, are the grid
pub sorted_grid : (marks : List ℕ) (step from to : ℕ) (some more all sorted : List ℕ) → from < to →
    HasMore some (from ∷ []) (λ p. (from < p) × (p < to) × (p % step ≡ 0)) →
    HasMore more some (λ p. (from < p) × (p < to) × Contains marks p) →
    all ≡ more ++ to ∷ [] → IsPermutation all sorted → IsSorted nat_cmp sorted → IsGrid marks step from to (dedup eqb sorted)
sorted_grid marks step from to some more all sorted span m n is perm order = record {
  rises = IsStrictlyIncreasing-dedup sorted order;
  members = λ p. (
    λ c.
        let a : Contains (more ++ to ∷ []) p = subst (λ (l : List ℕ). Contains l p) is (Contains-permutation sorted all p (IsPermutation-sym all sorted perm) (Contains-from_dedup eqb sorted p c)) in
        elim (Contains-push_cases more to p a) [
          | inl b ↦ elim ((n p).0 b) [
            | inl d ↦ elim ((m p).0 d) [
              | inl e ↦ inl (only_member from p e)
              | inr q ↦ inr (inr (q.0, q.1, inr q.2))
            ]
            | inr q ↦ inr (inr (q.0, q.1, inl q.2))
          ]
          | inr e ↦ inr (inl (sym e))
        ],
    λ place.
        let up : Contains (more ++ to ∷ []) p → Contains (dedup eqb sorted) p =
        λ c. Contains-dedup_nat sorted p (Contains-permutation all sorted p perm (subst (λ (l : List ℕ). Contains l p) (sym is) c)) in
        let low : Contains more p → Contains (dedup eqb sorted) p = λ c. up (Contains-append_left more (to ∷ []) p c) in
        let first : Contains some p → Contains (dedup eqb sorted) p = λ c. low ((n p).1 (inl c)) in
        elim place [
          | inl e ↦ first ((m p).1 (inl (0, omega arith, sym e)))
          | inr other ↦ elim other [
            | inl e ↦ up (subst (λ (x : ℕ). Contains (more ++ to ∷ []) x) (sym e) (Contains-push more to))
            | inr inside ↦ elim inside.2 [
              | inl c ↦ low ((n p).1 (inr (inside.0, inside.1, c)))
              | inr z ↦ first ((m p).1 (inr (inside.0, inside.1, z)))
            ]
          ]
        ],
  );
}
