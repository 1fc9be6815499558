-- Rising lists with the same members are the same.
use Rattle.std.proofs.Common.{ℕ, zero, suc, ◌≡◌, ◌<◌, ◌≤◌, ◌↔◌, ◌⊎◌, inl, inr, List, [], ◌∷◌, get_or, subst, sym, refl, ap, ◌∙◌, arith, Contains}
use Rattle.std.proofs.Common.{nat_cmp}
use Rattle.std.specs.List.Sorted.{IsStrictlyIncreasing}
use Rattle.std.proofs.lemmas.List.Elements.{Contains-append_cases, Contains-append_right}
use Rattle.std.proofs.lemmas.List.Kept.{AllPairs-from_increasing}
use Rattle.std.proofs.lemmas.Map.Keys.{sorted_tail, sorted_from_strictly_increasing, IsStrictlyIncreasing-from_sorted}
use Rattle.rail_specs.specs.Grid.{IsGrid}

rising_tail : (x : ℕ) (xs : List ℕ) → IsStrictlyIncreasing (x ∷ xs) → IsStrictlyIncreasing xs
rising_tail x xs h = IsStrictlyIncreasing-from_sorted xs (sorted_tail nat_cmp x xs (sorted_from_strictly_increasing (x ∷ xs) h))

above_first : (x : ℕ) (xs : List ℕ) → IsStrictlyIncreasing (x ∷ xs) → (p : ℕ) → Contains xs p → x < p
above_first x xs h p c =
    let l : x < get_or xs c.0 p = AllPairs-from_increasing (x ∷ xs) h 0 (suc c.0) p (omega arith) (omega (arith, c.1)) in
    omega (arith, l, c.2)

no_member : (p : ℕ) → Contains [] p → ⊥
no_member p c = omega (arith, c.1)

only_member : (x p : ℕ) → Contains (x ∷ []) p → x ≡ p
only_member x p (zero, l, e) = e
only_member x p (suc k, l, e) = absurd (omega arith)

first_member : (x : ℕ) (xs : List ℕ) → Contains (x ∷ xs) x
first_member x xs = (0, omega arith, refl)

later_member : (x : ℕ) (xs : List ℕ) (p : ℕ) → Contains xs p → Contains (x ∷ xs) p
later_member x xs p c = Contains-append_right (x ∷ []) xs p c

member_cases : (x : ℕ) (xs : List ℕ) (p : ℕ) → Contains (x ∷ xs) p → (x ≡ p) ⊎ Contains xs p
member_cases x xs p c = elim (Contains-append_cases (x ∷ []) xs p c) [ inl o ↦ inl (only_member x p o) | inr m ↦ inr m ]

not_above : (x : ℕ) (xs : List ℕ) → IsStrictlyIncreasing (x ∷ xs) → (p : ℕ) → Contains (x ∷ xs) p → x ≤ p
not_above x xs h p c = elim (member_cases x xs p c) [ inl e ↦ omega (arith, e) | inr m ↦ omega (arith, above_first x xs h p m) ]

tail_member : (x : ℕ) (xs ys : List ℕ) → IsStrictlyIncreasing (x ∷ xs) → ((p : ℕ) → Contains (x ∷ xs) p → Contains (x ∷ ys) p) → (p : ℕ) → Contains xs p → Contains ys p
tail_member x xs ys h f p c = elim (member_cases x ys p (f p (later_member x xs p c))) [
  | inl e ↦ absurd (omega (arith, e, above_first x xs h p c))
  | inr m ↦ m
]

pub same_list : (xs ys : List ℕ) → IsStrictlyIncreasing xs → IsStrictlyIncreasing ys → ((p : ℕ) → Contains xs p ↔ Contains ys p) → xs ≡ ys
same_list [] [] a b h = refl
same_list [] (y ∷ ys) a b h = absurd (no_member y ((h y).1 (first_member y ys)))
same_list (x ∷ xs) [] a b h = absurd (no_member x ((h x).0 (first_member x xs)))
same_list (x ∷ xs) (y ∷ ys) a b h =
    let e : x ≡ y = omega (arith, not_above y ys b x ((h x).0 (first_member x xs)), not_above x xs a y ((h y).1 (first_member y ys))) in
    let b' : IsStrictlyIncreasing (x ∷ ys) = subst (λ (z : ℕ). IsStrictlyIncreasing (z ∷ ys)) (sym e) b in
    let h' : (p : ℕ) → Contains (x ∷ xs) p ↔ Contains (x ∷ ys) p = subst (λ (z : ℕ). (p : ℕ) → Contains (x ∷ xs) p ↔ Contains (z ∷ ys) p) (sym e) h in
    let t : xs ≡ ys = same_list xs ys (rising_tail x xs a) (rising_tail y ys b) (λ p. (tail_member x xs ys a (λ q. (h' q).0) p, tail_member x ys xs b' (λ q. (h' q).1) p)) in
    ap (λ (z : ℕ). z ∷ xs) e ∙ ap (λ (zs : List ℕ). y ∷ zs) t

-- a grid has one list of places
pub one_grid : (marks : List ℕ) (step from to : ℕ) (xs ys : List ℕ) → IsGrid marks step from to xs → IsGrid marks step from to ys → xs ≡ ys
one_grid marks step from to xs ys g h = same_list xs ys g.rises h.rises (λ p. (λ c. (h.members p).1 ((g.members p).0 c), λ c. (g.members p).1 ((h.members p).0 c)))
