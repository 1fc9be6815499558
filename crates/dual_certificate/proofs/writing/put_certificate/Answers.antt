use Rattle.std.proofs.Common.{◌≡◌, pos, length, to_z, of_z, arith, ap}
use Rattle.std.specs.Int.{w128}
use Rattle.std.proofs.lemmas.Int.{ints}
use Rattle.dual_certificate.proofs.FieldTexts.{lines_append}
use Rattle.dual_certificate.proofs.writing.put_certificate.Goals as goal

pub returns : goal.returns
returns c =
    let d = c.args.certificate.now in
    let n : to_z w128 (length c.items-points.result.now) ≡ pos (length d.points) = omega (arith, ints, ap length c.items-points.ensures, c.requires.points) in
    let energy : to_z w128 (of_z w128 d.energy) ≡ d.energy = omega (arith, ints, c.requires.energy) in
    let bound : to_z w128 (of_z w128 d.bound) ≡ d.bound = omega (arith, ints, c.requires.bound) in
    lines_append c.args.out.now.items c.put_line.new.out.items c.put_one.new.out.items c.put_one-2.new.out.items c.put_one-3.new.out.items c.put_prices.new.out.items
    c.put_points.new.out.items c.put_line-2.new.out.items d (to_z w128 (length c.items-points.result.now)) (to_z w128 (of_z w128 d.energy)) (to_z w128 (of_z w128 d.bound)) c.items.result.now
    c.items-points.result.now n energy bound c.items.ensures c.items-points.ensures c.in_ok-put_line.ensures c.in_ok-put_one.ensures c.in_ok-put_one-2.ensures c.in_ok-put_one-3.ensures
    c.in_ok-put_prices.ensures c.in_ok-put_points.ensures c.in_ok-put_line-2.ensures
