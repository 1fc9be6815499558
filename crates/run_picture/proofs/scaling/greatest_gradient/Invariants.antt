use Rattle.std.proofs.Common.{◌≡◌, ◌≤◌}
use Rattle.std.specs.Int.RustNames.{unsigned_abs}
use Rattle.rail_specs.specs.Rules.{step_at}
use Rattle.run_picture.specs.Scale.{greatest_below}
use Rattle.run_picture.proofs.scaling.greatest_gradient.Given as goal

abbrev pub invariant-loop-i : goal.invariant-loop-i
invariant-loop-i l = record {
  value : l.greatest ≡ greatest_below (λ i. unsigned_abs (step_at l.rules i).gradient) l.i;
  small : l.greatest ≤ 65535;
}
