use Rattle.std.proofs.Common.{ℕ, ◌≡◌, ◌<◌, ◌+◌, ◌∙◌, Option, Some, List, length, ap, subst, sym, min, to_z, of_z, arith}
use Rattle.std.specs.Int.{w128}
use Rattle.std.specs.Prelude.{ℤ, ◌≤ℤ◌}
use Rattle.std.proofs.lemmas.Int.{ints}
use Rattle.bound_specs.specs.declared.Cell.{Cell}
use Rattle.bound_specs.specs.Chains.{plus, IsAtMost}
use Rattle.chain_duality.proofs.Orders.{at_most-trans}
use Rattle.potential_table.specs.declared.ways.Way.{Way}
use Rattle.potential_table.specs.Filling.{lesser, sum_found}
use Rattle.potential_table.specs.Ways.{way_at, by_way, IsLesserOf}
use Rattle.potential_table.proofs.LeastLemmas.{lesser_second}
use Rattle.potential_table.proofs.GroupLemmas.{stands_below, found_rises, lesser_passed, lesser_more}
use Rattle.potential_table.proofs.least.least_with_group.Goals as goal

-- the number behind its bits, in what a step of the search gives
told : (begun new beyond beyond_bits : ℤ) (p low : Option ℤ) → beyond_bits ≡ beyond → p ≡ low → sum_found new ≡ lesser (sum_found begun) (plus p (Some beyond_bits))
    → sum_found new ≡ lesser (sum_found begun) (plus low (Some beyond))
told begun new beyond beyond_bits p low is same e =
    e ∙ ap (λ (b : ℤ). lesser (sum_found begun) (plus p (Some b))) is ∙ ap (λ (q : Option ℤ). lesser (sum_found begun) (plus q (Some beyond))) same

pub returns-then-least_with-begun : goal.returns-then-least_with-begun
returns-then-least_with-begun g c =
    let low : ℕ → Cell → Cell → Option ℤ = g.K.CellCost.low_cost c.args.cost.now in
    let begun : ℤ = c.args.begun in
    let new : ℤ = c.least_with.result in
    let group : Way = c.args.group in
    let ways : List Way = c.args.ways.now in
    let by : Option ℤ = plus (low c.args.i c.args.cell group.cell) (Some group.beyond) in
    let begun_is : to_z w128 (of_z w128 begun) ≡ begun = omega (arith, ints, c.ranges.begun) in
    let new_is : to_z w128 (of_z w128 new) ≡ new = omega (arith, ints, c.least_with.type_inv) in
    let beyond_is : to_z w128 (of_z w128 group.beyond) ≡ group.beyond = omega (arith, ints, c.requires.group.1) in
    let rises : begun ≤ℤ new = omega (arith, ints, begun_is, new_is, c.if-least_with-begun.true) in
    let is : sum_found new ≡ lesser (sum_found begun) by = subst (λ (b : ℤ). sum_found new ≡ lesser (sum_found b) by) begun_is
    (told (to_z w128 (of_z w128 begun)) new group.beyond (to_z w128 (of_z w128 group.beyond)) c.low.result (low c.args.i c.args.cell group.cell) beyond_is c.low.ensures c.least_with.ensures) in
    let less : IsAtMost (sum_found begun) by = at_most-trans (sum_found begun) (sum_found new) by (found_rises begun new rises)
    (subst (λ (v : Option ℤ). IsAtMost v by) (sym is) (lesser_second (sum_found begun) by)) in
    let cost : ℕ → Option ℤ = by_way low c.args.i c.args.cell ways in
    let passed = lesser_passed cost (length ways) (sum_found begun) c.args.start (min (c.args.start + 8) (length ways)) by c.requires.begun less
    (λ j l m. stands_below (g.K.CellCost.step_count c.args.cost.now) (g.K.CellCost.real_cost c.args.cost.now) low (g.met.K.CellCost.keeps c.args.cost.now c.requires.sound) c.args.i c.args.cell group (way_at ways j)
    c.requires.step c.requires.cell c.requires.group (c.requires.ways j (omega (arith, m))) (c.requires.each j l (omega (arith, m)) (omega (arith, m)))) in
    subst (λ (n : ℤ). IsLesserOf cost (length ways) (sum_found begun) c.args.start (min (c.args.start + 8) (length ways)) (sum_found n)) (sym begun_is) passed

pub loop-j-preserved : goal.loop-j-preserved
loop-j-preserved g c =
    let low : ℕ → Cell → Cell → Option ℤ = g.K.CellCost.low_cost c.args.cost.now in
    let ways : List Way = c.args.ways.now in
    let least : ℤ = to_z w128 c.loop-j.least-bits in
    let new : ℤ = c.least_with-least.result in
    let way : Way = way_at ways c.loop-j.j in
    let cost : ℕ → Option ℤ = by_way low c.args.i c.args.cell ways in
    let begun : Option ℤ = sum_found (to_z w128 (of_z w128 c.args.begun)) in
    let lt : c.loop-j.j < length ways = omega (arith, c.loop-j-test.true, c.min-j-end.ensures) in
    let is : to_z w128 (of_z w128 new) ≡ new = omega (arith, ints, c.least_with-least.type_inv) in
    let small = (c.requires.ways c.loop-j.j lt).1 in
    let beyond_is : to_z w128 (of_z w128 way.beyond) ≡ way.beyond = omega (arith, ints, small) in
    let e : sum_found (to_z w128 (of_z w128 new)) ≡ lesser (sum_found least) (cost c.loop-j.j) =
    ap sum_found is ∙ told least new way.beyond (to_z w128 (of_z w128 way.beyond)) c.low-in-loop-j.result (low c.args.i c.args.cell way.cell) beyond_is c.low-in-loop-j.ensures c.least_with-least.ensures in
    lesser_more cost (length ways) begun c.args.start c.loop-j.j (sum_found least) (sum_found (to_z w128 (of_z w128 new))) lt c.loop-j.invariant e
