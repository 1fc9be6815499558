use Rattle.std.proofs.Common.{◌≡◌, map, get_or}
use Rattle.std.specs.List.{range_with_len}
use Rattle.proposers.specs.Offers.{braked_at}
use Rattle.proposers.proofs.early_braking.braked.Given as goal

abbrev pub invariant-loop-k : goal.invariant-loop-k
invariant-loop-k l = l.lowered.items ≡ map (λ k. braked_at (get_or l.speeds k 0) k l.stop l.d) (range_with_len 0 l.k)
