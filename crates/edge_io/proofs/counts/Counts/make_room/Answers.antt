use Rattle.std.proofs.Common.{arith, ◌∙◌, sym}
use Rattle.std.proofs.lemmas.Map.Text.{text_keys}
use Rattle.edge_io.proofs.CountLemmas.{count_in-counts_of, has_name-counts_of}
use Rattle.edge_io.proofs.counts.Counts.make_room.Goals as goal

pub returns-then-contains_key-clause-has : goal.returns-then-contains_key-clause-has
returns-then-contains_key-clause-has c =
    rw (← c.self.view_is, has_name-counts_of c.self.inside.counts c.args.name.now) (sym c.contains_key.ensures ∙ c.if-contains_key.true)

pub returns-clause-has : goal.returns-clause-has
returns-clause-has c = rw (has_name-counts_of c.insert.new.self c.args.name.now) (grind (arith, text_keys))

pub returns-clause-same : goal.returns-clause-same
returns-clause-same c q =
    rw (← c.self.view_is, count_in-counts_of c.insert.new.self q, count_in-counts_of c.self.inside.counts q) (grind (arith, text_keys))
