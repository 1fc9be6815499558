use Rattle.std.proofs.Common.{◌≡◌, ◌≤◌}
use Rattle.std.specs.Prelude.{slice_index}
use Rattle.run_picture.specs.Scale.{greatest_below}
use Rattle.run_picture.proofs.scaling.greatest_limit.Given as goal

abbrev pub invariant-loop-i : goal.invariant-loop-i
invariant-loop-i l = record {
  value : l.greatest ≡ greatest_below (λ i. slice_index l.rules.limits i) l.i;
  small : l.greatest ≤ 12000;
}
