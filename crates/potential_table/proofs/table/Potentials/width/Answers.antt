use Rattle.std.proofs.Common.{◌≡◌, ◌≤◌, ◌<◌, ◌+◌, ◌-◌, length, rules}
use Rattle.bound_specs.specs.Chains.{values_of}
use Rattle.potential_table.proofs.LayoutLemmas.{before_last, width_seen, starts_in_order}
use Rattle.potential_table.proofs.table.Potentials.width.Goals as goal

pub overflow_add-point : goal.overflow_add-point
overflow_add-point c =
    let b = before_last c.self.inside.starts.items c.self.inside.values.items c.args.self.now c.self.view_is c.self.invariant c.args.point c.requires in search rules

pub index-requires : goal.index-requires
index-requires c =
    let b = before_last c.self.inside.starts.items c.self.inside.values.items c.args.self.now c.self.view_is c.self.invariant c.args.point c.requires in search rules

pub index-requires-2 : goal.index-requires-2
index-requires-2 c =
    let b = before_last c.self.inside.starts.items c.self.inside.values.items c.args.self.now c.self.view_is c.self.invariant c.args.point c.requires in search rules

pub overflow_sub-result : goal.overflow_sub-result
overflow_sub-result c =
    starts_in_order c.self.inside.starts.items c.self.inside.values.items c.args.self.now c.self.view_is c.self.invariant c.args.point c.requires
    c.index-2.result.now c.index.result.now c.index-2.ensures c.index.ensures

pub returns : goal.returns
returns c =
    width_seen c.self.inside.starts.items c.self.inside.values.items c.args.self.now c.self.view_is c.self.invariant c.args.point c.requires
    c.index-2.result.now c.index.result.now c.index-2.ensures c.index.ensures
