use Rattle.std.proofs.Common.{◌≡◌, ◌≤◌, All, length, map, take}
use Rattle.sheet_run.specs.Shown.{point_of}
use Rattle.sheet_run.proofs.shown.points_of.Given as goal

abbrev pub invariant-loop-call : goal.invariant-loop-call
invariant-loop-call l = record {
  value : l.points.items ≡ map (λ c. point_of l.rules c.place) (take l.call-index l.calls);
  within : All (λ k. k ≤ length l.rules.steps) l.points.items;
}
