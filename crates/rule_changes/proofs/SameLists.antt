-- Lists that rise by a key and have the same elements are the same.
use Rattle.std.proofs.Common.{ℕ, zero, suc, ◌≡◌, ◌<◌, ◌≤◌, ◌+◌, ◌-◌, ◌∙◌, List, length, get_or, subst, ap, arith, inl, inr, add-one}
use Rattle.std.specs.List.Sorted.{IsNonDecreasingBy}
use Rattle.std.proofs.lemmas.Bool.{cases_lt, cases_eq}
use Rattle.std.proofs.lemmas.List.{ext_get_or, get_or_default}
use Rattle.std.proofs.lemmas.List.Sorted.{IsNonDecreasingBy-from_all_adjacent}

module _ {X : Type 0} (n : X → ℕ) (d : X) where
  -- each element's key is below the next one's
  abbrev pub RiseBy : List X → Type 0
  RiseBy xs = (k : ℕ) → k + 1 < length xs → n (get_or xs k d) < n (get_or xs (k + 1) d)

  -- each element of the first list stands in the second
  abbrev pub StandIn : List X → List X → Type 0
  StandIn xs ys = (k : ℕ) → k < length xs → (h : ℕ) × (h < length ys) × (get_or xs k d ≡ get_or ys h d)

  no_fall : (xs : List X) → RiseBy xs → (i j : ℕ) → i ≤ j → j < length xs → n (get_or xs i d) ≤ n (get_or xs j d)
  no_fall xs h i j a l =
      let all : IsNonDecreasingBy n xs = IsNonDecreasingBy-from_all_adjacent n xs (λ k e m.
      rw (get_or_default xs k e d (omega (arith, m)), get_or_default xs (k + 1) e d m) (let near = h k m in omega (arith, near))) in
      all i j d a l

  at_least : (xs ys : List X) → RiseBy xs → RiseBy ys → (is : StandIn xs ys) → (k : ℕ) (l : k < length xs) → k ≤ (is k l).0
  at_least xs ys a b is zero = λ l. omega arith
  at_least xs ys a b is (suc k) = subst (λ (m : ℕ). (l : m < length xs) → m ≤ (is m l).0) (add-one k) (λ m.
      let before : k < length xs = omega (arith, m) in
      let so_far = at_least xs ys a b is k before in
      let g : ℕ = (is k before).0 in
      let h : ℕ = (is (k + 1) m).0 in
      let up = a k m in
      elim (cases_lt g h) [
        | inl ahead ↦ omega (arith, so_far, ahead)
        | inr o ↦ absurd (let down = no_fall ys b h g o (is k before).1 in let x = ap n (is k before).2 in let y = ap n (is (k + 1) m).2 in omega (arith, up, down, x, y))
      ])

  not_longer : (xs ys : List X) → RiseBy xs → RiseBy ys → StandIn xs ys → length xs ≤ length ys
  not_longer xs ys a b is = elim (cases_eq (length xs) 0) [
    | inl e ↦ omega (arith, e)
    | inr ne ↦ (let l : length xs - 1 < length xs = omega (arith, ne) in let far = at_least xs ys a b is (length xs - 1) l in let there = (is (length xs - 1) l).1 in omega (arith, far, there, ne))
  ]

  pub same_rising : (xs ys : List X) → RiseBy xs → RiseBy ys → StandIn xs ys → StandIn ys xs → xs ≡ ys
  same_rising xs ys a b is back =
      let short = not_longer xs ys a b is in
      let long = not_longer ys xs b a back in
      ext_get_or d xs ys (omega (arith, short, long)) (λ k l.
      let m : k < length ys = omega (arith, l, short) in
      let h : ℕ = (is k l).0 in
      let g : ℕ = (back k m).0 in
      let up : k ≤ h = at_least xs ys a b is k l in
      let down : k ≤ g = at_least ys xs b a back k m in
      let q = no_fall xs a k g down (back k m).1 in
      let e = (is k l).2 in
      let f = (back k m).2 in
      elim (cases_eq h k) [
        | inl same ↦ e ∙ ap (λ (i : ℕ). get_or ys i d) same
        | inr ne ↦ absurd (let inside : k + 1 < length ys = (let within = (is k l).1 in omega (arith, within, up, ne)) in
            let near = b k inside in
            let far = no_fall ys b (k + 1) h (omega (arith, up, ne)) (is k l).1 in
            let x = ap n e in let y = ap n f in omega (arith, near, far, q, x, y))
      ])
