use Rattle.std.proofs.Common.{◌≡◌, map, min, get_or}
use Rattle.std.specs.List.{range_with_len}
use Rattle.proposers.proofs.late_coasting.lesser.Given as goal

abbrev pub invariant-loop-k : goal.invariant-loop-k
invariant-loop-k l = l.speeds.items ≡ map (λ k. min (get_or l.first k 0) (get_or l.second k 0)) (range_with_len 0 l.k)
