use Rattle.std.proofs.Common.{◌≡◌, ◌≤◌}
use Rattle.std.specs.Prelude.{slice_index}
use Rattle.run_picture.specs.Scale.{greatest_below}
use Rattle.run_picture.proofs.scaling.greatest_speed.Given as goal

abbrev pub invariant-loop-k : goal.invariant-loop-k
invariant-loop-k l = record {
  value : l.greatest ≡ greatest_below (λ k. slice_index l.speeds k) l.k;
  small : l.greatest ≤ 12000;
}
