use Rattle.std.proofs.Common.{◌≡◌, ◌≤◌, ◌*◌, ◌^◌}
use Rattle.std.specs.Int.RustNames.{unsigned_abs}
use Rattle.rail_specs.specs.Rules.{work_at}
use Rattle.rail_specs.specs.Cost.{int_sum_below, traction_cost}
use Rattle.drive_report.proofs.energies.traction_energy.Given as goal

abbrev pub invariant-loop-i : goal.invariant-loop-i
invariant-loop-i l = record {
  value : l.sum ≡ int_sum_below (λ i. traction_cost (work_at l.rules l.speeds i)) l.i;
  small : unsigned_abs l.sum ≤ 2 ^ 62 * l.i;
}
