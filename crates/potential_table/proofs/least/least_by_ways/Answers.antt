use Rattle.std.proofs.Common.{ℕ, ◌-◌, arith}
use Rattle.potential_table.proofs.least.least_by_ways.Goals as goal

pub least_with_group-least-requires-clause-each : goal.least_with_group-least-requires-clause-each
least_with_group-least-requires-clause-each g c j l m lt =
    let b : ℕ = c.loop-b.b - 1 in
    c.requires.groups.each b j (omega (arith, c.loop-b-test.true, c.loop-b.auto.b)) (omega (arith, l)) (omega (arith, m)) lt
