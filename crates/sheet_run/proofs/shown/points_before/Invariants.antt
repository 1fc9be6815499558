use Rattle.std.proofs.Common.{◌≡◌, ◌≤◌, count_by, nat_lt, take}
use Rattle.sheet_run.proofs.shown.points_before.Given as goal

abbrev pub invariant-loop-k : goal.invariant-loop-k
invariant-loop-k l = l.count ≡ count_by (λ p. nat_lt p l.place) (take l.k l.rules.places)
