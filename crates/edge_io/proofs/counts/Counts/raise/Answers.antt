use Rattle.std.proofs.Common.{arith, rules, ◌≡◌, ◌∙◌, sym, is_some, true, IsSome}
use Rattle.std.specs.BTreeMap.{get_by_text}
use Rattle.std.proofs.lemmas.Map.Text.{btree_map_updates_text}
use Rattle.edge_io.proofs.CountLemmas.{count_in-counts_of, has_name-counts_of}
use Rattle.edge_io.proofs.Raising.{raise-count}
use Rattle.edge_io.proofs.counts.Counts.raise.Goals as goal

pub unwrap-count-requires : goal.unwrap-count-requires
unwrap-count-requires c =
    let has : is_some (get_by_text c.self.inside.counts c.args.name.now) ≡ true =
    sym (has_name-counts_of c.self.inside.counts c.args.name.now) ∙ rw (← c.self.view_is) at c.requires
    in grind (arith, has, c.get_mut.ensures.value)

pub returns : goal.returns
returns c q =
    let there : IsSome (get_by_text c.self.inside.counts c.args.name.now) =
    sym (has_name-counts_of c.self.inside.counts c.args.name.now) ∙ rw (← c.self.view_is) at c.requires in
    let u = (c.get_mut.follows.holds c.saturating_add.result).3 there in
    let at = btree_map_updates_text c.args.name.now c.self.inside.counts (c.get_mut.follows.lender c.saturating_add.result) _ u q in
    let old = rw c.unwrap-count.ensures at c.get_mut.ensures.value in
    rw (
      ← c.self.view_is,
      count_in-counts_of c.self.inside.counts q,
      count_in-counts_of (c.get_mut.follows.lender c.saturating_add.result) q,
      at,
    )
    (raise-count (get_by_text c.self.inside.counts) c.args.name.now q c.unwrap-count.result.now c.saturating_add.result
    (search rules) old c.saturating_add.ensures)
