use Rattle.std.proofs.Common.{◌≡◌, pos, length, to_z, of_z, arith, ap}
use Rattle.std.specs.Int.{w128}
use Rattle.std.proofs.lemmas.Int.{ints}
use Rattle.costate_text.proofs.LineTexts.{lines_append}
use Rattle.costate_text.proofs.writing.put_costate_certificate.Goals as goal

pub returns : goal.returns
returns c =
    let d = c.args.certificate.now in
    let n : to_z w128 (length c.items-speeds.result.now) ≡ pos (length d.speeds) = omega (arith, ints, ap length c.items-speeds.ensures, c.requires.points) in
    let energy : to_z w128 (of_z w128 d.energy) ≡ d.energy = omega (arith, ints, c.requires.energy) in
    let bound : to_z w128 (of_z w128 d.bound) ≡ d.bound = omega (arith, ints, c.requires.bound) in
    lines_append c.args.out.now.items c.put_line.new.out.items c.put_one.new.out.items c.put_one-2.new.out.items c.put_one-3.new.out.items c.put_prices.new.out.items c.put_speeds.new.out.items
    c.put_costates.new.out.items c.put_line-2.new.out.items d (to_z w128 (length c.items-speeds.result.now)) (to_z w128 (of_z w128 d.energy)) (to_z w128 (of_z w128 d.bound)) c.items.result.now
    c.items-speeds.result.now c.items-2.result.now n energy bound c.items.ensures c.items-speeds.ensures c.items-2.ensures c.in_ok-put_line.ensures c.in_ok-put_one.ensures c.in_ok-put_one-2.ensures
    c.in_ok-put_one-3.ensures c.in_ok-put_prices.ensures c.in_ok-put_speeds.ensures c.in_ok-put_costates.ensures c.in_ok-put_line-2.ensures
