use Rattle.std.proofs.Common.{ℕ, ◌≡◌, ◌<◌, ◌≤◌, ◌-◌}
use Rattle.std.specs.Prelude.{◌≤ℤ◌}
use Rattle.speed_envelopes.specs.Narrowing.{capped}
use Rattle.phase_composer.specs.Best.{IsTimely, NoneOnTimeUnder, IsKeptDrive, Beats}
use Rattle.phase_composer.proofs.caps.try_least_cap.Given as goal

-- the least cap on time is above `late` and at most that of `known`
abbrev pub invariant-loop-late : goal.invariant-loop-late
invariant-loop-late g l = record {
  above : l.late < l.known.narrow.cap;
  most : l.known.narrow.cap ≤ 12000;
  narrow : l.known.narrow ≡ capped l.known.narrow.cap;
  timely : IsTimely l.rules l.known.narrow l.known.drive;
  none : (c : ℕ) → 1 ≤ c → c ≤ l.late → NoneOnTimeUnder l.rules (capped c);
  beats : Beats (g.C.StepCost.cost l.cost) l.rules l.known.narrow l.best.cost;
  kept : IsKeptDrive (g.C.StepCost.cost l.cost) l.rules l.best.drive l.best.cost;
  no_worse : l.best.cost ≤ℤ l.initial.best.cost;
}

abbrev pub decreases-loop-late : goal.decreases-loop-late
decreases-loop-late g l = l.known.narrow.cap - l.late
