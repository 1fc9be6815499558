-- A list with one more item.
use Rattle.std.proofs.Common.{◌≡◌, ◌<◌, ◌+◌, ◌-◌, ◌++◌, ◌∷◌, ℕ, List, [], length, length-append, inl, inr, arith, slice_index_or}
use Rattle.std.proofs.lemmas.Bool.{cases_lt}
use Rattle.std.proofs.Math.ListN.{get_or-append}
use Rattle.std.proofs.Math.Seq.{get_or-append_seam}

-- `none` stands in place of an item that is not there
module _ {A : Type 0} (none : A) where
  at-before : (xs : List A) (x : A) (k : ℕ) → k < length xs → slice_index_or (xs ++ x ∷ []) k none ≡ slice_index_or xs k none
  at-before xs x k h = get_or-append xs (x ∷ []) none k h

  at-end : (xs : List A) (x : A) (k : ℕ) → k ≡ length xs → slice_index_or (xs ++ x ∷ []) k none ≡ x
  at-end xs x k e = rw e (get_or-append_seam xs x [] none)

  -- what holds of each item
  pub each-push : (Is : A → Type 0) (xs : List A) (x : A) → ((k : ℕ) → k < length xs → Is (slice_index_or xs k none)) → Is x
      → (k : ℕ) → k < length (xs ++ x ∷ []) → Is (slice_index_or (xs ++ x ∷ []) k none)
  each-push Is xs x each is k h =
      let size = length-append xs (x ∷ []) in
      elim (cases_lt k (length xs)) [
        | inl less ↦ rw (at-before xs x k less) (each k less)
        | inr more ↦ rw (at-end xs x k (omega (arith, size))) is
      ]

  -- what holds of each item and the next
  pub next-push : (Next : A → A → Type 0) (xs : List A) (x : A)
      → ((k : ℕ) → k + 1 < length xs → Next (slice_index_or xs k none) (slice_index_or xs (k + 1) none))
      → (0 < length xs → Next (slice_index_or xs (length xs - 1) none) x)
      → (k : ℕ) → k + 1 < length (xs ++ x ∷ []) → Next (slice_index_or (xs ++ x ∷ []) k none) (slice_index_or (xs ++ x ∷ []) (k + 1) none)
  next-push Next xs x each last k h =
      let size = length-append xs (x ∷ []) in
      elim (cases_lt (k + 1) (length xs)) [
        | inl less ↦ let here : k < length xs = omega arith in rw (at-before xs x (k + 1) less, at-before xs x k here) (each k less)
        | inr more ↦
            let here : k < length xs = omega (arith, size) in
            let seam : length xs - 1 ≡ k = omega (arith, size) in
            rw (at-end xs x (k + 1) (omega (arith, size)), at-before xs x k here) (rw seam at (last (omega arith)))
      ]
