use Rattle.std.proofs.Common.{◌≡◌, ◌∷◌, ◌+◌, ◌*◌, ◌++◌, ◌∙◌, ℤ, pos, [], ap, arith, of_z, to_z}
use Rattle.std.specs.Int.{w128}
use Rattle.std.proofs.lemmas.Int.{ints}
use Rattle.std.specs.Fmt.{decimal, signed_decimal}
use Rattle.sample_lines.specs.Texts.{row_line}
use Rattle.sample_lines.proofs.Rows.{four_pieces}
use Rattle.sample_lines.proofs.texts.put_row.Goals as goal

pub returns : goal.returns
unfolding row_line
returns c =
    let b = c.args.b in
    let from : to_z w128 (1000 * b) ≡ pos (1000 * b) = omega (arith, ints, c.requires) in
    let to : to_z w128 (1000 * (b + 1)) ≡ pos (1000 * (b + 1)) = omega (arith, ints, c.requires) in
    let value : to_z w128 (of_z w128 c.args.value) ≡ c.args.value = omega (arith, ints, c.ranges.value.sfits) in
    let u = c.extend_from_slice.new.self.items in
    let v = c.put_field.new.out.items in
    let w = c.put_field-2.new.out.items in
    four_pieces c.args.out.now.items u v w c.put_field-3.new.out.items c.push.new.self.items
    c.args.kind.now (44 ∷ decimal (1000 * b)) (44 ∷ decimal (1000 * (b + 1))) (44 ∷ signed_decimal c.args.value) (10 ∷ [])
    c.in_ok-extend_from_slice.ensures.items (c.in_ok-put_field.ensures ∙ ap (λ (z : ℤ). u ++ 44 ∷ signed_decimal z) from)
    (c.in_ok-put_field-2.ensures ∙ ap (λ (z : ℤ). v ++ 44 ∷ signed_decimal z) to)
    (c.in_ok-put_field-3.ensures ∙ ap (λ (z : ℤ). w ++ 44 ∷ signed_decimal z) value) c.in_ok-push.ensures.items
