use Rattle.std.proofs.Common.{arith, ◌<◌, ◌^◌, ℕ}
use Rattle.std.proofs.Math.Nat.{pow-le-pow_right}
use Rattle.sheet_parts.proofs.decimals.put_decimals.Goals as goal

some_unit : (places : ℕ) → 0 < 10 ^ places
some_unit places = omega (arith, pow-le-pow_right {n = 10} (omega arith) {i = 0} {j = places} (omega arith))

pub nonzero_div-size : goal.nonzero_div-size
nonzero_div-size c = omega (arith, some_unit c.args.places, c.pow-unit.ensures)

pub nonzero_rem-size : goal.nonzero_rem-size
nonzero_rem-size c = omega (arith, some_unit c.args.places, c.pow-unit.ensures)
