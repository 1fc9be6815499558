-- Costs of links that a test takes: a step from 0 to 0 can't be driven; any other costs 20 more than what it ends with, less 3 times
-- what it begins with.
use Rattle.std.specs.Prelude.{ℕ, zero, suc, ◌+◌, ◌*◌, ◌≤◌, ℤ, pos, ◌-ℤ◌, Option, Some, None, refl}
use Rattle.bound_specs.specs.declared.Cell.{Cell}
use Rattle.bound_specs.specs.Cells.{single}
use Rattle.bound_specs.specs.Chains.{IsAtMost, IsSmall, AreCellCosts}
use Rattle.std.proofs.Common.{arith}
use Rattle.std.proofs.lemmas.Int.{ints}

-- what a step costs from the speed v to a cell of these speeds
abbrev pub slope_from : ℕ → ℕ → ℕ → Option ℤ
slope_from zero first zero = None
slope_from zero first (suc last) = Some (pos (20 + first))
slope_from (suc v) first last = Some (pos (20 + first) -ℤ pos (3 * suc v))

-- what a step costs from a cell with the last speed v to a cell
abbrev pub slope : ℕ → Cell → Option ℤ
slope v b = slope_from v b.first b.last

-- it is no more from a faster speed, to a cell that lies lower and reaches further
rises : (v w first last first' last' : ℕ) → v ≤ w → first' ≤ first → last ≤ last'
    → IsAtMost (slope_from w first' last') (slope_from v first last)
rises zero w first zero first' last' g h l = tt
rises zero zero first (suc last) first' zero g h l = absurd (omega arith)
rises zero zero first (suc last) first' (suc last') g h l = omega (arith, ints, h)
rises zero (suc w) first (suc last) first' last' g h l = omega (arith, ints, h)
rises (suc v) zero first last first' last' g h l = absurd (omega arith)
rises (suc v) (suc w) first last first' last' g h l = omega (arith, ints, g, h)

-- it is small
small : (v first last : ℕ) → v ≤ 12000 → first ≤ 12000 → IsSmall (slope_from v first last)
small zero first zero g h = tt
small zero first (suc last) g h = omega (arith, h)
small (suc v) first last g h = omega (arith, ints, g, h)

-- they keep the laws
pub slopes_keep : (n : ℕ) → AreCellCosts n (λ i v w. slope v (single w)) (λ i a b. slope a.last b)
slopes_keep n = record {
  below = λ i a b v w l a_cell b_cell has to. rises v a.last w w b.first b.last has.1 to.0 to.1;
  single = λ i v w l g h. refl;
  nested = λ i a b c d l a_cell b_cell c_cell d_cell from to. rises c.last a.last d.first d.last b.first b.last from.1 to.0 to.1;
  small_real = λ i v w l g h. small v w w g h;
  small_low = λ i a b l a_cell b_cell. small a.last b.first b.last a_cell.1 (omega (arith, b_cell));
}
