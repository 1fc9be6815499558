-- Sums of functions of the index.
use Rattle.std.proofs.Common.{ℕ, zero, suc, ◌+◌, ◌*◌, ◌<◌, ◌≤◌, ◌≡◌, ◌∙◌, min, refl, ap, sym, inl, inr, add-one, arith}
use Rattle.std.proofs.lemmas.Bool.{cases_lt}
use Rattle.rail_specs.specs.Times.{sum_below}

-- equal terms give equal sums
pub sum_below-same : (f g : ℕ → ℕ) (n : ℕ) → ((i : ℕ) → i < n → f i ≡ g i) → sum_below f n ≡ sum_below g n
sum_below-same f g zero h = refl
sum_below-same f g (suc n) h = omega (arith, sum_below-same f g n (λ i k. h i (omega arith)), h n (omega arith))

-- a sum of zeros is zero
pub sum_below-zeros : (f : ℕ → ℕ) (n : ℕ) → ((i : ℕ) → i < n → f i ≡ 0) → sum_below f n ≡ 0
sum_below-zeros f zero h = refl
sum_below-zeros f (suc n) h = omega (arith, sum_below-zeros f n (λ i k. h i (omega arith)), h n (omega arith))

-- a sum of sums of two terms is the sum of the two sums
pub sum_below-add : (f g : ℕ → ℕ) (n : ℕ) → sum_below (λ i. f i + g i) n ≡ sum_below f n + sum_below g n
sum_below-add f g zero = refl
sum_below-add f g (suc n) = omega (arith, sum_below-add f g n)

-- a factor of each term is a factor of the sum
pub sum_below-scale : (f : ℕ → ℕ) (k n : ℕ) → sum_below f n * k ≡ sum_below (λ i. f i * k) n
sum_below-scale f k zero = omega arith
sum_below-scale f k (suc n) = omega (arith, sum_below-scale f k n)

-- the order of two sums may be exchanged
pub sum_below-exchange : (f : ℕ → ℕ → ℕ) (n m : ℕ) →
    sum_below (λ i. sum_below (λ j. f i j) m) n ≡ sum_below (λ j. sum_below (λ i. f i j) n) m
sum_below-exchange f zero m = sym (sum_below-zeros (λ _. 0) m (λ _ _. refl))
sum_below-exchange f (suc n) m =
    ap (λ s. s + sum_below (λ j. f n j) m) (sum_below-exchange f n m)
    ∙ sym (sum_below-add (λ j. sum_below (λ i. f i j) n) (λ j. f n j) m)

-- terms that are zero from n on add nothing
pub sum_below-past : (f : ℕ → ℕ) (n q : ℕ) → ((i : ℕ) → n ≤ i → f i ≡ 0) → sum_below f (min q n) ≡ sum_below f q
sum_below-past f n zero h = let e : min 0 n ≡ 0 = omega arith in rw e refl
sum_below-past f n (suc q) h = elim (cases_lt q n) [
  | inl l ↦ (let e : min (suc q) n ≡ suc q = omega arith in rw e refl)
  | inr l ↦ (let e : min (suc q) n ≡ min q n = omega arith in rw e (omega (arith, sum_below-past f n q h, h q l)))
]

-- no sum is above as many times the greatest term
pub sum_below-bound : (f : ℕ → ℕ) (most n : ℕ) → ((i : ℕ) → f i ≤ most) → sum_below f n ≤ n * most
sum_below-bound f most zero h = omega arith
sum_below-bound f most (suc n) h = omega (arith, sum_below-bound f most n h, h n)

-- one more term
pub sum_below-more : (f : ℕ → ℕ) (n s : ℕ) → s ≡ sum_below f n → s + f n ≡ sum_below f (n + 1)
sum_below-more f n s h = rw (add-one n) (ap (λ t. t + f n) h)
