use Rattle.std.proofs.Common.{ℕ, ◌≡◌, ◌*◌, ◌<◌, ◌≤◌}
use Rattle.std.specs.Prelude.{◌≤ℤ◌}
use Rattle.speed_envelopes.specs.Narrowing.{capped}
use Rattle.phase_composer.specs.Best.{IsTimely, IsKeptDrive, BeatsCoasting}
use Rattle.phase_composer.proofs.coasting.try_coasting.Given as goal

-- the drives under each cap above 375 j, up to the first that was tried, are dealt with
abbrev pub invariant-loop-j : goal.invariant-loop-j
invariant-loop-j g l = record {
  most : l.j ≤ 32;
  cap : 375 * l.j ≤ l.known.narrow.cap;
  narrow : l.known.narrow ≡ capped l.known.narrow.cap;
  timely : IsTimely l.rules l.known.narrow l.known.drive;
  beats : (i : ℕ) → l.j < i → i ≤ l.initial.j → BeatsCoasting (g.C.StepCost.cost l.cost) l.rules (375 * i) 0 l.best.cost;
  kept : IsKeptDrive (g.C.StepCost.cost l.cost) l.rules l.best.drive l.best.cost;
  no_worse : l.best.cost ≤ℤ l.initial.best.cost;
}

abbrev pub decreases-loop-j : goal.decreases-loop-j
decreases-loop-j g l = l.j
