use Rattle.std.proofs.Common.{◌≡◌, true, to_z, of_z, arith}
use Rattle.std.specs.Int.{w128}
use Rattle.std.proofs.lemmas.Int.{ints}
use Rattle.dual_certificate.specs.Grammar.{prices_read}
use Rattle.dual_certificate.proofs.FieldLists.{price_kept}
use Rattle.dual_certificate.proofs.reading.price_fields.Goals as goal

pub loop-field-preserved-then-in_range : goal.loop-field-preserved-then-in_range
loop-field-preserved-then-in_range c =
    let price = c.in-Some-read_spelled.price in
    let same : to_z w128 (of_z w128 price) ≡ price = omega (arith, ints, c.in-Some-read_spelled.ensures.small) in
    record {
      next = (tt, tt);
      read = price_kept c.loop-field.in_range c.price_fits-in_range.result c.loop-field.room price (to_z w128 (of_z w128 price)) c.in-Some.field.now c.next.new.self
          c.loop-field.fields c.loop-field.prices c.push.new.self (prices_read true 64 c.args.fields) c.in-Some.ensures.steps c.in-Some-read_spelled.ensures.value same c.price_fits-in_range.ensures
          c.if-in_range.true c.in_ok-push.ensures c.loop-field.invariant.read;
    }
