use Rattle.std.proofs.Common.{◌≡◌, ◌≤ℤ◌, ◌+ℤ◌, ◌+◌, ◌∙◌, ℤ, pos, ap, length, refl, to_z, of_z, arith}
use Rattle.std.specs.Int.{w128}
use Rattle.std.proofs.lemmas.Int.{ints}
use Rattle.std.proofs.lemmas.List.{length_push}
use Rattle.dual_certificate.specs.Grammar.{cells_read}
use Rattle.dual_certificate.proofs.FieldLists.{both_true, cell_kept, cell_bounds}
use Rattle.dual_certificate.proofs.reading.cell_fields.Goals as goal

pub overflow_cast-first : goal.overflow_cast-first
overflow_cast-first c =
    let first = c.in-Some-read_cell.first in
    let great : ℤ = to_z w128 (of_z w128 c.args.greatest) in
    let low : ℤ = to_z w128 c.loop-field.least-bits in
    let value : ℤ = to_z w128 (of_z w128 first) in
    let in_range = both_true c.loop-field.in_range c.cell_fits-in_range.result c.if-in_range.true in
    let b = cell_bounds great c.loop-field.in_range c.cell_fits-in_range.result c.loop-field.left low value c.in-Some-read_cell.potential c.cell_fits-in_range.ensures c.if-in_range.true in
    let q = c.requires.fits (c.loop-field.invariant.fits in_range.0) in
    let same : great ≡ c.args.greatest = omega (arith, ints, c.ranges.greatest.sfits) in
    let from : pos 0 ≤ℤ low = omega (arith, ints, c.loop-field.invariant.least, c.loop-field.least-is) in
    grind (arith, ints, b.above, b.below, q.1, same, from)

pub loop-field-preserved-then-in_range : goal.loop-field-preserved-then-in_range
loop-field-preserved-then-in_range c =
    let first = c.in-Some-read_cell.first in
    let great : ℤ = to_z w128 (of_z w128 c.args.greatest) in
    let low : ℤ = to_z w128 c.loop-field.least-bits in
    let value : ℤ = to_z w128 (of_z w128 first) in
    let same : value ≡ first = omega (arith, ints, c.in-Some-read_cell.ensures.small) in
    let next : to_z w128 (of_z w128 (value +ℤ pos 1)) ≡ first +ℤ pos 1 = omega (arith, ints, same, c.in-Some-read_cell.ensures.small) in
    let in_range = both_true c.loop-field.in_range c.cell_fits-in_range.result c.if-in_range.true in
    let b = cell_bounds great c.loop-field.in_range c.cell_fits-in_range.result c.loop-field.left low value c.in-Some-read_cell.potential c.cell_fits-in_range.ensures c.if-in_range.true in
    let from : pos 0 ≤ℤ low = omega (arith, ints, c.loop-field.invariant.least, c.loop-field.least-is) in
    let more : length c.push.new.self ≡ length c.loop-field.cells + 1 = ap length c.in_ok-push.ensures ∙ length_push c.loop-field.cells _ in
    record {
      next = (tt, tt);
      read = cell_kept c.args.n great c.loop-field.in_range c.cell_fits-in_range.result c.loop-field.left low low first value (to_z w128 (of_z w128 (value +ℤ pos 1)))
          c.in-Some-read_cell.potential c.in-Some.field.now c.next.new.self c.loop-field.fields c.loop-field.cells c.push.new.self
          (cells_read c.args.n great c.args.fits (c.args.room, pos 0) c.args.fields) c.in-Some.ensures.steps
          c.in-Some-read_cell.ensures.value same refl next c.cell_fits-in_range.ensures c.if-in_range.true c.in_ok-push.ensures c.loop-field.invariant.read;
      few = omega (arith, more, b.room, c.loop-field.invariant.few);
      least = omega (arith, ints, b.above, from, same, next);
      fits = λ _. c.loop-field.invariant.fits in_range.0;
    }
