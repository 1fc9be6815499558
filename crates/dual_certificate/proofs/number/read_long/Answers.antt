use Rattle.std.proofs.Common.{arith, ◌≡◌, ◌+◌, ◌≤◌, ◌^◌, ◌∙◌, sym, get_or, true}
use Rattle.std.specs.Char.{is_ascii_digit}
use Rattle.dual_certificate.proofs.Digits.{size_more, digits_more}
use Rattle.dual_certificate.proofs.number.read_long.Goals as goal

pub loop-digit-preserved : goal.loop-digit-preserved
loop-digit-preserved c =
    let i = c.loop-digit.digit-index in
    let text = c.args.text.now in
    let low : 48 ≤ get_or text i 0 = omega (arith, c.if-not-is_ascii_digit.ensures.cases) in
    let high : get_or text i 0 ≤ 57 = omega (arith, c.if-not-is_ascii_digit.ensures.cases) in
    let digit : is_ascii_digit (get_or text i 0) ≡ true = sym c.is_ascii_digit.ensures.value ∙ c.if-not-is_ascii_digit.false in
    record {
      value = c.loop-digit.invariant.value ∙ size_more text i c.loop-digit.size c.with_digit-size.result (2 ^ 100 + 1) c.loop-digit-test.true low high c.with_digit-size.ensures;
      digits = c.loop-digit.invariant.digits ∙ digits_more text i c.loop-digit-test.true digit;
      small = omega (arith, c.with_digit-size.ensures);
    }
