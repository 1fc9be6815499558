-- The first steps of a cost of links keep its laws.
use Rattle.std.specs.Prelude.{ℕ, ◌≤◌, ℤ, Option}
use Rattle.std.proofs.Common.{arith}
use Rattle.bound_specs.specs.declared.Cell.{Cell}
use Rattle.bound_specs.specs.Chains.{AreCellCosts}

-- laws of costs of so many steps hold of fewer steps
pub first_costs : (m n : ℕ) (real : ℕ → ℕ → ℕ → Option ℤ) (low : ℕ → Cell → Cell → Option ℤ) → m ≤ n → AreCellCosts n real low → AreCellCosts m real low
first_costs m n real low few laws = record {
  below = λ i a b v w l. laws.below i a b v w (omega (arith, l, few));
  single = λ i v w l. laws.single i v w (omega (arith, l, few));
  nested = λ i a b c d l. laws.nested i a b c d (omega (arith, l, few));
  small_real = λ i v w l. laws.small_real i v w (omega (arith, l, few));
  small_low = λ i a b l. laws.small_low i a b (omega (arith, l, few));
}
