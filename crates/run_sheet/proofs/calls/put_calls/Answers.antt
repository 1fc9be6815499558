use Rattle.std.proofs.Common.{arith, ℕ, ◌≡◌, ◌≤◌, ◌∙◌, List, ap, length}
use Rattle.std.specs.Prelude.{slice_index}
use Rattle.rail_specs.specs.Times.{arrival_up}
use Rattle.run_sheet.specs.Timetable.{call_line, line_of_call}
use Rattle.run_sheet.proofs.AppendLemmas.{joined_more}
use Rattle.run_sheet.proofs.calls.put_calls.Goals as goal

pub loop-j-preserved : goal.loop-j-preserved
loop-j-preserved c =
    let r = c.args.rules.now in
    let speeds = c.args.speeds.now in
    let j : ℕ = c.loop-j.j in
    let k : ℕ = slice_index c.args.calls.now j in
    let name : List ℕ = c.get.result.now in
    let within : k ≤ length r.steps = c.requires.calls j 0 (omega arith) in
    let timely : call_line r k (slice_index c.args.times.now k) name ≡ call_line r k (arrival_up r speeds k) name = ap (λ (t : ℕ). call_line r k t name) (c.requires.times.each k within) in
    let named : call_line r k (arrival_up r speeds k) name ≡ line_of_call r speeds c.args.calls.now c.args.names.now j = ap (λ (n : List ℕ). call_line r k (arrival_up r speeds k) n) c.get.ensures in
    joined_more (line_of_call r speeds c.args.calls.now c.args.names.now) c.args.out.now.items c.loop-j.out.items c.put_call.new.out.items
    (call_line r k (slice_index c.args.times.now k) name) j c.loop-j.invariant c.in_ok-put_call.ensures (timely ∙ named)
