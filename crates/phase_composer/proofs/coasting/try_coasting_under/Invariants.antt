use Rattle.std.proofs.Common.{◌≤◌}
use Rattle.std.specs.Prelude.{◌≤ℤ◌}
use Rattle.phase_composer.specs.Best.{IsKeptDrive, BeatsCoasting}
use Rattle.phase_composer.proofs.CoastingLemmas.{CoastLeft}
use Rattle.phase_composer.proofs.coasting.try_coasting_under.Given as goal

-- every point of index k or above was tried; of those that are left, those that end at the same stop are narrower than the drive that is
-- known, and where none is known, none of them is on time
abbrev pub invariant-loop-k : goal.invariant-loop-k
invariant-loop-k g l = record {
  most : l.k ≤ 64;
  left : CoastLeft l.rules l.under.narrow.cap l.k l.stop l.known;
  beats : BeatsCoasting (g.C.StepCost.cost l.cost) l.rules l.under.narrow.cap l.k l.best.cost;
  kept : IsKeptDrive (g.C.StepCost.cost l.cost) l.rules l.best.drive l.best.cost;
  no_worse : l.best.cost ≤ℤ l.initial.best.cost;
}

abbrev pub decreases-loop-k : goal.decreases-loop-k
decreases-loop-k g l = l.k
