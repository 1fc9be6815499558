-- Sums over steps and points, and the least of some values.
use Rattle.std.proofs.Common.{ℕ, zero, suc, ◌≡◌, ◌+◌, ◌-◌, ◌<◌, ◌≤◌, ◌∙◌, refl, sym, ap, subst, arith, add-one, inl, inr}
use Rattle.std.specs.Prelude.{ℤ, pos, ◌+ℤ◌, ◌*ℤ◌, ◌≤ℤ◌}
use Rattle.std.specs.Int.{int_min}
use Rattle.std.proofs.lemmas.Int.{ints, clamps}
use Rattle.std.proofs.lemmas.Bool.{cases_eq}
use Rattle.rail_specs.specs.Cost.{int_sum_below}
use Rattle.costate_bound.specs.Relaxation.{least_from}

pub int_sum_below-next : (f : ℕ → ℤ) (n : ℕ) → int_sum_below f (n + 1) ≡ int_sum_below f n +ℤ f n
int_sum_below-next f n = rw (add-one n) refl

-- with one value more
pub least_from-next : (f : ℕ → ℤ) (low v : ℕ) → low ≤ v → least_from f low (v + 1 - low) ≡ int_min (least_from f low (v - low)) (f (v + 1))
least_from-next f low v h =
    let e : v + 1 - low ≡ suc (v - low) = omega (arith, h) in
    let at : low + suc (v - low) ≡ v + 1 = omega (arith, h) in
    ap (least_from f low) e ∙ ap (λ (k : ℕ). int_min (least_from f low (v - low)) (f k)) at

-- with one value alone
pub least_from-one : (f : ℕ → ℤ) (low : ℕ) → least_from f low (low - low) ≡ f low
least_from-one f low = let e : low - low ≡ zero = omega arith in ap (least_from f low) e

pub ruleset nexts = (int_sum_below-next, least_from-next, least_from-one)

least-both : (a b : ℤ) → (int_min a b ≤ℤ a) × (int_min a b ≤ℤ b)
least-both a b = (omega (arith, ints, clamps), omega (arith, ints, clamps))

-- the least is at most each value
least_from-below : (f : ℕ → ℤ) (low more j : ℕ) → j ≤ more → least_from f low more ≤ℤ f (low + j)
least_from-below f low zero j h =
    let e : low ≡ low + j = omega (arith, h) in
    subst (λ (k : ℕ). f low ≤ℤ f k) e (omega (arith, ints))
least_from-below f low (suc more) j h =
    let both = least-both (least_from f low more) (f (low + suc more)) in
    elim (cases_eq j (suc more)) [
      | inl e ↦ subst (λ (k : ℕ). least_from f low (suc more) ≤ℤ f (low + k)) (sym e) both.1
      | inr apart ↦ omega (arith, ints, both.0, least_from-below f low more j (omega (arith, h, apart)))
    ]

pub least_between : (f : ℕ → ℤ) (low high v : ℕ) → low ≤ v → v ≤ high → least_from f low (high - low) ≤ℤ f v
least_between f low high v h g =
    let e : low + (v - low) ≡ v = omega (arith, h) in
    subst (λ (k : ℕ). least_from f low (high - low) ≤ℤ f k) e (least_from-below f low (high - low) (v - low) (omega (arith, h, g)))

-- sums of terms that are each at most another
pub sums_below : (f g : ℕ → ℤ) (n : ℕ) → ((k : ℕ) → k < n → f k ≤ℤ g k) → int_sum_below f n ≤ℤ int_sum_below g n
sums_below f g zero h = omega (arith, ints)
sums_below f g (suc n) h = omega (arith, ints, h n (omega arith), sums_below f g n (λ k l. h k (omega (arith, l))))

pub sums_same : (f g : ℕ → ℤ) (n : ℕ) → ((k : ℕ) → k < n → f k ≡ g k) → int_sum_below f n ≡ int_sum_below g n
sums_same f g zero h = refl
sums_same f g (suc n) h = omega (arith, ints, h n (omega arith), sums_same f g n (λ k l. h k (omega (arith, l))))

-- sums taken apart
pub sums_apart : (f g : ℕ → ℤ) (n : ℕ) → int_sum_below (λ k. f k +ℤ g k) n ≡ int_sum_below f n +ℤ int_sum_below g n
sums_apart f g zero = omega (arith, ints)
sums_apart f g (suc n) = omega (arith, ints, sums_apart f g n)

pub sums_times : (f : ℕ → ℤ) (n : ℕ) → int_sum_below (λ k. pos 64000 *ℤ f k) n ≡ (pos 64000 *ℤ int_sum_below f n)
sums_times f zero = omega (arith, ints)
sums_times f (suc n) = omega (arith, ints, sums_times f n)
