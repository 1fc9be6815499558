use Rattle.std.proofs.Common.{arith, ℤ, ◌≡◌, ◌++◌, ◌∙◌, [], ap, length, to_z, of_z, Option}
use Rattle.std.proofs.lemmas.Int.{ints}
use mir.Syntax.{w128}
use Rattle.rail_base.specs.Texts.{line}
use Rattle.rail_specs.specs.Times.{arrival_up}
use Rattle.sheet_parts.specs.Energy.{saving_of}
use Rattle.run_sheet.specs.Timetable.{column_names, call_lines, running_line, energy_line, bound_line, saving_line, phases_text, timetable_text}
use Rattle.run_sheet.proofs.AppendLemmas.{appended_eight}
use Rattle.run_sheet.proofs.PointLemmas.{time_read}
use Rattle.run_sheet.proofs.call_table.timetable.Goals as goal

pub returns : goal.returns
unfolding timetable_text
returns c =
    let r = c.args.rules.now in
    let speeds = c.args.speeds.now in
    let e : to_z w128 (of_z w128 c.args.energy) ≡ c.args.energy = omega (arith, ints) in
    let b : to_z w128 (of_z w128 c.args.bound) ≡ c.args.bound = omega (arith, ints) in
    let end : c.index.result.now ≡ arrival_up r speeds (length r.steps) =
    time_read r speeds c.in_ok-times.times.items c.steps.result c.index.result.now c.in_ok-times.ensures (omega arith) c.index.ensures ∙ ap (arrival_up r speeds) c.steps.ensures.value in
    let saving : c.saving_of.result ≡ saving_of c.args.energy c.args.bound = rw (e, b) at c.saving_of.ensures in
    appended_eight [] c.put_column_names.new.out.items c.put_calls.new.out.items c.push.new.self.items c.put_running.new.out.items c.put_energy.new.out.items c.put_bound.new.out.items
    c.put_saving.new.out.items c.put_phases.new.out.items column_names (call_lines r speeds c.args.calls.now c.args.names.now) (line []) (running_line (arrival_up r speeds (length r.steps)))
    (energy_line c.args.energy) (bound_line c.args.bound) (saving_line (saving_of c.args.energy c.args.bound)) (phases_text r speeds)
    (rw c.new-out.ensures.items at c.in_ok-put_column_names.ensures) c.in_ok-put_calls.ensures c.in_ok-push.ensures.items
    (rw end at c.in_ok-put_running.ensures) (rw e at c.in_ok-put_energy.ensures) (rw b at c.in_ok-put_bound.ensures)
    (c.in_ok-put_saving.ensures ∙ ap (λ (s : Option ℤ). c.put_bound.new.out.items ++ saving_line s) saving) c.in_ok-put_phases.ensures
