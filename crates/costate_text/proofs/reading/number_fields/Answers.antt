use Rattle.std.proofs.Common.{◌≡◌, ◌∙◌, true, sym, to_z, of_z, arith, ℤ}
use Rattle.std.specs.Int.{w32, w128}
use Rattle.std.proofs.lemmas.Int.{ints, fits_signed_from_abs}
use Rattle.dual_certificate.proofs.FieldLists.{both_true}
use Rattle.costate_text.specs.Grammar.{number_fits, numbers_read}
use Rattle.costate_text.proofs.TextLaws.{number_bounds, number_kept}
use Rattle.costate_text.proofs.reading.number_fields.Goals as goal

pub overflow_cast-number : goal.overflow_cast-number
overflow_cast-number c =
    let low : ℤ = to_z w128 (of_z w128 c.args.low) in
    let high : ℤ = to_z w128 (of_z w128 c.args.high) in
    let value : ℤ = to_z w128 (of_z w128 c.in-Some-read_spelled.number) in
    let fits : number_fits low high c.loop-field.room value ≡ true = sym c.number_fits-in_range.ensures ∙ (both_true c.loop-field.in_range c.number_fits-in_range.result c.if-in_range.true).1 in
    let b = number_bounds low high c.loop-field.room value fits in
    let lows : low ≡ c.args.low = omega (arith, ints, c.requires.low) in
    let highs : high ≡ c.args.high = omega (arith, ints, c.requires.high) in
    fits_signed_from_abs w32 value (omega (arith, ints, b.1.above, b.1.below, lows, highs, c.requires.low, c.requires.high))

pub overflow_sub-room : goal.overflow_sub-room
overflow_sub-room c =
    let low : ℤ = to_z w128 (of_z w128 c.args.low) in
    let high : ℤ = to_z w128 (of_z w128 c.args.high) in
    let value : ℤ = to_z w128 (of_z w128 c.in-Some-read_spelled.number) in
    let fits : number_fits low high c.loop-field.room value ≡ true = sym c.number_fits-in_range.ensures ∙ (both_true c.loop-field.in_range c.number_fits-in_range.result c.if-in_range.true).1 in
    (number_bounds low high c.loop-field.room value fits).0

pub loop-field-preserved-then-in_range : goal.loop-field-preserved-then-in_range
loop-field-preserved-then-in_range c =
    let low : ℤ = to_z w128 (of_z w128 c.args.low) in
    let high : ℤ = to_z w128 (of_z w128 c.args.high) in
    let number : ℤ = c.in-Some-read_spelled.number in
    let value : ℤ = to_z w128 (of_z w128 number) in
    let same : value ≡ number = omega (arith, ints, c.in-Some-read_spelled.ensures.small) in
    let fits : number_fits low high c.loop-field.room value ≡ true = sym c.number_fits-in_range.ensures ∙ (both_true c.loop-field.in_range c.number_fits-in_range.result c.if-in_range.true).1 in
    let b = number_bounds low high c.loop-field.room value fits in
    let lows : low ≡ c.args.low = omega (arith, ints, c.requires.low) in
    let highs : high ≡ c.args.high = omega (arith, ints, c.requires.high) in
    let cast : to_z w32 (of_z w32 value) ≡ number = omega (arith, ints, b.1.above, b.1.below, lows, highs, c.requires.low, c.requires.high, same) in
    record {
      next = (tt, tt);
      read = number_kept c.args.n low high c.loop-field.in_range c.number_fits-in_range.result c.loop-field.room number value (to_z w32 (of_z w32 value)) c.in-Some.field.now c.next.new.self
          c.loop-field.fields c.loop-field.numbers c.push.new.self (numbers_read c.args.n low high true c.args.count c.args.fields) c.in-Some.ensures.steps c.in-Some-read_spelled.ensures.value same cast
          c.number_fits-in_range.ensures c.if-in_range.true c.in_ok-push.ensures c.loop-field.invariant.read;
    }
