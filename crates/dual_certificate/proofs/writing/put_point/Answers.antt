use Rattle.std.proofs.Common.{◌≡◌, pos, to_z, arith}
use Rattle.std.specs.Int.{w128}
use Rattle.std.proofs.lemmas.Int.{ints}
use Rattle.dual_certificate.proofs.FieldTexts.{point_append}
use Rattle.dual_certificate.proofs.writing.put_point.Goals as goal

pub returns : goal.returns
returns c =
    let p = c.args.point.now in
    let v : to_z w128 p.speed ≡ pos p.speed = omega (arith, ints) in
    let g : to_z w128 p.greatest ≡ pos p.greatest = omega (arith, ints) in
    point_append c.args.out.now.items c.extend_from_slice.new.self.items c.put_spaced.new.out.items c.put_spaced-2.new.out.items c.put_each_cell.new.out.items c.push.new.self.items
    p (to_z w128 p.speed) (to_z w128 p.greatest) c.items.result.now c.requires v g c.items.ensures c.in_ok-extend_from_slice.ensures.items c.in_ok-put_spaced.ensures
    c.in_ok-put_spaced-2.ensures c.in_ok-put_each_cell.ensures c.in_ok-push.ensures.items
