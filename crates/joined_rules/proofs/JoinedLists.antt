-- Lists that grow, or are set, by one element at a time.
use Rattle.std.proofs.Common.{ℕ, ◌≡◌, ◌<◌, ◌+◌, List, [], ◌∷◌, ◌++◌, length, get_or, set, subst, sym, arith, inl, inr, length-append}
use Rattle.std.proofs.Math.ListN.{get_or-append}
use Rattle.std.proofs.Math.Seq.{get_or-append_seam}
use Rattle.std.proofs.lemmas.Bool.{cases_lt}
use Rattle.std.proofs.lemmas.List.{get_or-set_same, get_or-set_other}

-- what holds of each element, and of one more, holds of each of the longer list
pub pushed : {X : Type 0} (P : ℕ → X → Type 0) (xs ys : List X) (x d : X) → ys ≡ xs ++ x ∷ [] →
    ((j : ℕ) → j < length xs → P j (get_or xs j d)) → P (length xs) x → (j : ℕ) → j < length ys → P j (get_or ys j d)
pushed P xs ys x d e h last = subst (λ (zs : List _). (j : ℕ) → j < length zs → P j (get_or zs j d)) (sym e)
    (λ j l. elim (cases_lt j (length xs)) [
      | inl b ↦ subst (P j) (sym (get_or-append xs (x ∷ []) d j b)) (h j b)
      | inr g ↦ (let same : length xs ≡ j = omega (arith, length-append xs (x ∷ [])) in
          subst (λ (i : ℕ). P i (get_or (xs ++ x ∷ []) i d)) same (subst (P (length xs)) (sym (get_or-append_seam xs x [] d)) last))
    ])

-- what holds of each of the first elements, and of the next that is set, holds of each up to that
pub set_next : (P : ℕ → ℕ → Type 0) (xs : List ℕ) (i v : ℕ) → i < length xs → ((j : ℕ) → j < i → P j (get_or xs j 0)) → P i v → (j : ℕ) → j < i + 1 → P j (get_or (set xs i v) j 0)
set_next P xs i v l h at = λ j m. elim (cases_lt j i) [
  | inl b ↦ subst (P j) (sym (get_or-set_other xs i j v 0 (λ e. omega (arith, e, b)))) (h j b)
  | inr g ↦ (let same : i ≡ j = omega (arith, g, m) in
      subst (λ (n : ℕ). P n (get_or (set xs i v) n 0)) same (subst (P i) (sym (get_or-set_same xs i v 0 l)) at))
]
