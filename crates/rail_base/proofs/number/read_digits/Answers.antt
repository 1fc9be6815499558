use Rattle.std.proofs.Common.{◌+◌, ◌<◌, arith}
use Rattle.std.proofs.Math.Nat.{pow-le-pow_right}
use Rattle.rail_base.proofs.NumberLemmas.{digits_fit, digits_small}
use Rattle.rail_base.proofs.number.read_digits.Goals as goal

pub overflow_mul-number : goal.overflow_mul-number
overflow_mul-number c =
    let i = c.loop-digit.digit-index in
    omega (arith, digits_fit _ (i + 1) (digits_small c.loop-digit.number 0 i c.loop-digit.invariant.small (omega arith)) (omega arith))

pub overflow_add-number : goal.overflow_add-number
overflow_add-number c =
    let i = c.loop-digit.digit-index in
    let low : c.from.result < 10 = omega (arith, c.if-not-is_ascii_digit.ensures.cases) in
    omega (arith, digits_fit _ (i + 1) (digits_small c.loop-digit.number c.from.result i c.loop-digit.invariant.small low) (omega arith))

pub returns-clause-small : goal.returns-clause-small
returns-clause-small c = omega (arith, c.loop-digit.invariant.small, pow-le-pow_right {n = 10} (omega arith) {i = c.loop-digit.digit-index} {j = c.args.most} (omega arith))
