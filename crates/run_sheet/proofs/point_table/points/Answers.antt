use Rattle.std.proofs.Common.{arith, ℕ, ℤ, ◌≡◌, ◌++◌, ◌∙◌, ap, sym, refl, length, to_z}
use mir.Syntax.{w128}
use Rattle.rail_specs.specs.Rules.{work_at}
use Rattle.rail_specs.specs.Times.{arrival_up}
use Rattle.drive_rules.proofs.VerdictLemmas.{int_sum_below-next}
use Rattle.sheet_parts.specs.Fill.{joined_below}
use Rattle.run_sheet.specs.Points.{cost_before, field_names, point_line, line_of_point, points_text}
use Rattle.run_sheet.proofs.AppendLemmas.{joined_more}
use Rattle.run_sheet.proofs.PointLemmas.{time_read, line_with, sum_more}
use Rattle.run_sheet.proofs.point_table.points.Goals as goal

pub loop-k-preserved : goal.loop-k-preserved
loop-k-preserved g c =
    let r = c.args.rules.now in
    let speeds = c.args.speeds.now in
    let cost : ℤ → ℤ = g.C.StepCost.cost c.args.cost.now in
    let k : ℕ = c.loop-k.k in
    let energy : ℤ = to_z w128 c.loop-k.energy-bits in
    let time : c.index.result.now ≡ arrival_up r speeds k = time_read r speeds c.in_ok-times.times.items k c.index.result.now c.in_ok-times.ensures (omega arith) c.index.ensures in
    let own = line_with cost r speeds k k c.index.result.now energy refl time c.loop-k.invariant.value in
    let step = c.step_cost-energy in
    let m = sum_more energy step.result (cost_before cost r speeds k) (cost (work_at r speeds k)) k (omega arith) c.loop-k.invariant.small step.ensures.small c.loop-k.invariant.value step.ensures.value in
    record {
      text = joined_more (line_of_point cost r speeds) field_names c.loop-k.out.items c.put_point.new.out.items (point_line r speeds k c.index.result.now energy) k
          c.loop-k.invariant.text c.in_ok-put_point.ensures own;
      value = m.0 ∙ sym (int_sum_below-next (λ i. cost (work_at r speeds i)) k);
      small = m.1;
    }

pub returns : goal.returns
unfolding points_text
returns g c =
    let r = c.args.rules.now in
    let speeds = c.args.speeds.now in
    let cost : ℤ → ℤ = g.C.StepCost.cost c.args.cost.now in
    let n : ℕ = length r.steps in
    let last : c.steps-last.result ≡ n = c.steps-last.ensures.value in
    let all : c.loop-k.k ≡ n = omega arith in
    let energy : ℤ = to_z w128 c.loop-k.energy-bits in
    let time : c.index-2.result.now ≡ arrival_up r speeds n =
    time_read r speeds c.in_ok-times.times.items c.steps-last.result c.index-2.result.now c.in_ok-times.ensures (omega arith) c.index-2.ensures ∙ ap (arrival_up r speeds) last in
    let own = line_with cost r speeds c.steps-last.result n c.index-2.result.now energy last time (c.loop-k.invariant.value ∙ ap (cost_before cost r speeds) all) in
    joined_more (line_of_point cost r speeds) field_names c.loop-k.out.items c.put_point-2.new.out.items (point_line r speeds c.steps-last.result c.index-2.result.now energy) n
    (c.loop-k.invariant.text ∙ ap (λ (m : ℕ). field_names ++ joined_below (line_of_point cost r speeds) m) all) c.in_ok-put_point-2.ensures own
