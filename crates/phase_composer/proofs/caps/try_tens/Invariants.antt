use Rattle.std.proofs.Common.{ℕ, ◌≡◌, ◌*◌, ◌≤◌}
use Rattle.std.specs.Prelude.{◌≤ℤ◌}
use Rattle.speed_envelopes.specs.Narrowing.{capped}
use Rattle.phase_composer.specs.Best.{IsTimely, IsKeptDrive, BeatsTens}
use Rattle.phase_composer.proofs.caps.try_tens.Given as goal

-- every cap from the present one up was tried
abbrev pub invariant-loop-tens : goal.invariant-loop-tens
invariant-loop-tens g l = record {
  some : 1 ≤ l.tens;
  most : l.tens ≤ 1200;
  narrow : l.known.narrow ≡ capped (10 * l.tens);
  timely : IsTimely l.rules l.known.narrow l.known.drive;
  beats : BeatsTens (g.C.StepCost.cost l.cost) l.rules l.tens l.best.cost;
  kept : IsKeptDrive (g.C.StepCost.cost l.cost) l.rules l.best.drive l.best.cost;
  no_worse : l.best.cost ≤ℤ l.initial.best.cost;
}

abbrev pub decreases-loop-tens : goal.decreases-loop-tens
decreases-loop-tens g l = l.tens
