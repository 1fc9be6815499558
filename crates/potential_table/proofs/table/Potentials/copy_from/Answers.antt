use Rattle.std.proofs.Common.{ℕ, ◌≡◌, ◌+◌, ◌<◌, ◌∙◌, Option, None, List, length, get_or, ap, sym, subst, arith, rules}
use Rattle.std.specs.Prelude.{ℤ}
use Rattle.potential_table.proofs.CopyLemmas.{point_inside, old_start_read, start_read, ends_alike, values_copied, small_copied}
use Rattle.potential_table.proofs.table.Potentials.copy_from.Goals as goal
use Rattle.potential_table.proofs.table.Potentials.copy_from.Goals.{After-copy_values}

pub index-requires : goal.index-requires
index-requires c =
    let inside : c.args.point < length c.self.inside.starts.items =
    point_inside c.args.cells.now c.args.starts.now.items c.requires.starts c.self.inside.starts.items c.self.inside.values.items c.args.self.now c.self.view_is
    c.self.invariant c.requires.points c.args.point c.requires.point c.requires.widths in
    search rules

pub copy_values-requires : goal.copy_values-requires
copy_values-requires c =
    let old = old_start_read c.args.cells.now c.args.starts.now.items c.requires.starts c.self.inside.starts.items c.self.inside.values.items c.args.self.now c.self.view_is
    c.self.invariant c.requires.points c.args.point c.requires.point c.requires.widths c.index.result.now c.index.ensures in
    let new = start_read c.args.cells.now c.args.starts.now.items c.requires.starts c.self.inside.starts.items c.self.inside.values.items c.args.self.now c.self.view_is
    c.self.invariant c.requires.points c.args.point c.requires.point c.requires.widths c.index-2.result.now c.index-2.ensures in
    let ends = ends_alike c.args.cells.now c.args.starts.now.items c.requires.starts c.self.inside.starts.items c.self.inside.values.items c.args.self.now c.self.view_is
    c.self.invariant c.requires.points c.args.point c.requires.point c.requires.widths (length c.args.values.now.items) c.requires.room in
    omega (arith, old, new, ends)

-- the values that were copied stand from the point's start on
copied : (c : After-copy_values) → (j : ℕ) → get_or c.self.inside.starts.items c.args.point 0 + j < length c.self.inside.values.items
    → get_or c.copy_values.new.values.items (get_or c.args.starts.now.items c.args.point 0 + j) None ≡ get_or c.self.inside.values.items (get_or c.self.inside.starts.items c.args.point 0 + j) None
copied c j l =
    let old = old_start_read c.args.cells.now c.args.starts.now.items c.requires.starts c.self.inside.starts.items c.self.inside.values.items c.args.self.now c.self.view_is
    c.self.invariant c.requires.points c.args.point c.requires.point c.requires.widths c.index.result.now c.index.ensures in
    let new = start_read c.args.cells.now c.args.starts.now.items c.requires.starts c.self.inside.starts.items c.self.inside.values.items c.args.self.now c.self.view_is
    c.self.invariant c.requires.points c.args.point c.requires.point c.requires.widths c.index-2.result.now c.index-2.ensures in
    ap (λ (s : ℕ). get_or c.copy_values.new.values.items (s + j) None) (sym new)
    ∙ c.copy_values.ensures.copied j (omega (arith, l, old)) ∙ ap (λ (s : ℕ). get_or c.self.inside.values.items (s + j) None) old

pub returns-clause-copied : goal.returns-clause-copied
returns-clause-copied c =
    values_copied c.args.cells.now c.args.starts.now.items c.requires.starts c.self.inside.starts.items c.self.inside.values.items c.args.self.now c.self.view_is
    c.self.invariant c.requires.points c.args.point c.requires.point c.requires.widths c.copy_values.new.values.items
    (c.copy_values.ensures.length ∙ c.requires.room) (copied c)

pub returns-clause-small : goal.returns-clause-small
returns-clause-small c =
    small_copied c.args.cells.now c.args.starts.now.items c.requires.starts c.self.inside.starts.items c.self.inside.values.items c.args.self.now c.self.view_is
    c.self.invariant c.requires.points c.args.point c.requires.point c.requires.widths c.copy_values.new.values.items
    (c.copy_values.ensures.length ∙ c.requires.room) (copied c)
