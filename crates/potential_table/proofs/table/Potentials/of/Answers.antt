use Rattle.std.proofs.Common.{rules, ◌+◌, ◌<◌, length}
use Rattle.potential_table.proofs.LayoutLemmas.{before_last, place_inside, value_seen, small_seen}
use Rattle.potential_table.proofs.table.Potentials.of.Goals as goal
use Rattle.potential_table.proofs.table.Potentials.of.Goals.{After-index}

pub index-requires : goal.index-requires
index-requires c =
    let b : c.args.point + 1 < length c.self.inside.starts.items =
    before_last c.self.inside.starts.items c.self.inside.values.items c.args.self.now c.self.view_is c.self.invariant
    c.args.point c.requires.point in
    search rules

-- the value's place is inside the list
inside : (c : After-index) → c.index.result.now + c.args.cell < length c.self.inside.values.items
inside c = place_inside c.self.inside.starts.items c.self.inside.values.items c.args.self.now c.self.view_is c.self.invariant
    c.args.point c.requires.point c.index.result.now c.args.cell c.index.ensures c.requires.cell

pub overflow_add-index : goal.overflow_add-index
overflow_add-index c = let b = inside (goal.at.overflow_add-index c).After-index in search rules

pub index-requires-2 : goal.index-requires-2
index-requires-2 c = let b = inside (goal.at.index-requires-2 c).After-index in search rules

pub returns-clause-value : goal.returns-clause-value
returns-clause-value c =
    value_seen c.self.inside.starts.items c.self.inside.values.items c.args.self.now c.self.view_is c.self.invariant
    c.args.point c.requires.point c.index.result.now c.args.cell c.index-2.result.now c.index.ensures c.requires.cell
    c.index-2.ensures

pub returns-clause-small : goal.returns-clause-small
returns-clause-small c =
    small_seen c.self.inside.starts.items c.self.inside.values.items c.args.self.now c.self.view_is c.self.invariant
    c.args.point c.requires.point c.index.result.now c.args.cell c.index-2.result.now c.index.ensures c.requires.cell
    c.index-2.ensures
