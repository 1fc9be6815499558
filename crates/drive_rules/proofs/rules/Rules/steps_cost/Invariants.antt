use Rattle.std.proofs.Common.{◌≡◌, ◌≤◌, ◌*◌, ◌^◌, None}
use Rattle.std.specs.Int.RustNames.{unsigned_abs}
use Rattle.rail_specs.specs.Rules.{work_at}
use Rattle.rail_specs.specs.Cost.{int_sum_below}
use Rattle.rail_base.specs.First.{first_below}
use Rattle.drive_rules.specs.Verdict.{step_fault}
use Rattle.drive_rules.proofs.rules.Rules.steps_cost.Given as goal

abbrev pub invariant-loop-i : goal.invariant-loop-i
invariant-loop-i g l = record {
  none : first_below (step_fault l.self l.speeds) l.i ≡ None;
  value : l.sum ≡ int_sum_below (λ i. g.C.StepCost.cost l.cost (work_at l.self l.speeds i)) l.i;
  small : unsigned_abs l.sum ≤ 2 ^ 62 * l.i;
}
