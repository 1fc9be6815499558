use Rattle.std.proofs.Common.{ℕ, Option, refl}
use Rattle.std.specs.Prelude.{ℤ}
use Rattle.potential_table.specs.Filling.{value_from}
use Rattle.potential_table.proofs.WayLemmas.{ways_more}
use Rattle.potential_table.proofs.ways.read_ways.Goals as goal

pub loop-c-preserved : goal.loop-c-preserved
loop-c-preserved c =
    let value : ℕ → Option ℤ = value_from c.args.values.now c.args.start in
    ways_more c.loop-c.ways.items c.args.cells.now value c.loop-c.c c.loop-c.invariant (value c.loop-c.c) c.push_way.new.ways.items refl
    c.in_ok-push_way.ensures
