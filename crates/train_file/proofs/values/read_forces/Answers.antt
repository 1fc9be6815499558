use Rattle.std.proofs.Common.{sym}
use Rattle.toml.specs.Data.{get_member}
use Rattle.toml.specs.View.{table_view}
use Rattle.rail_specs.specs.Table.{AreRows}
use Rattle.train_file.proofs.Reading.{rows_at-ok, forces-made}
use Rattle.train_file.proofs.values.read_forces.Goals as goal

pub make-requires : goal.make-requires
make-requires c =
    let held = get_member c.args.name.now (table_view c.args.table.now) in
    let rows : AreRows c.in_ok-rows.rows.items = rows_at-ok c.args.key held c.in_ok-rows.rows.items (sym (c.in_ok-rows.ensures (λ e. cc e))) in
    rw c.as_slice.ensures.value rows

pub returns-in-Ok : goal.returns-in-Ok
returns-in-Ok c other =
    let held = get_member c.args.name.now (table_view c.args.table.now) in
    let rows = sym (c.in_ok-rows.ensures (λ e. cc e)) in
    let table = rw c.as_slice.ensures.value at c.in-Ok.ensures.table in
    let none = rw c.as_slice.ensures.value at c.in-Ok.ensures.refused in
    forces-made c.args.key held c.in_ok-rows.rows.items c.in-Ok.forces rows none table
