use Rattle.std.proofs.Common.{◌≡◌, ◌-◌, ◌^◌, ◌∙◌, ap, subst, sym, Option, Some, pos, to_z, of_z, arith}
use Rattle.std.specs.Int.{w128}
use Rattle.std.specs.Prelude.{ℤ, ◌+ℤ◌, ◌<ℤ◌}
use Rattle.std.proofs.lemmas.Int.{ints}
use Rattle.bound_specs.specs.Chains.{plus, IsSmall}
use Rattle.potential_table.specs.Filling.{lesser, sum_found}
use Rattle.potential_table.proofs.LeastLemmas.{found_lesser}
use Rattle.potential_table.proofs.least.least_with.Goals as goal

pub returns-in-Some : goal.returns-in-Some
returns-in-Some c =
    let least : ℤ = c.args.least in
    let low : ℤ = c.in-Some.low in
    let beyond : ℤ = c.args.beyond in
    let small : IsSmall (Some low) = subst IsSmall c.in-Some.is c.requires.low in
    let least_is : to_z w128 (of_z w128 least) ≡ least = omega (arith, ints, c.ranges.least) in
    let sum_is : to_z w128 (of_z w128 (to_z w128 (of_z w128 low) +ℤ to_z w128 (of_z w128 beyond))) ≡ low +ℤ beyond =
    omega (arith, ints, small, c.requires.beyond) in
    let result_is : to_z w128 (of_z w128 c.min.result) ≡ c.min.result = omega (arith, ints, c.min.type_inv) in
    let below : (low +ℤ beyond) <ℤ pos (2 ^ 127 - 1) = omega (arith, ints, small, c.requires.beyond) in
    ap sum_found result_is
    ∙ found_lesser least (low +ℤ beyond) c.min.result (rw (least_is, sum_is) at c.min.ensures.value) below
    ∙ ap (λ (p : Option ℤ). lesser (sum_found least) (plus p (Some beyond))) (sym c.in-Some.is)
