use Rattle.std.proofs.Common.{◌≡◌, ◌+◌, map, filter}
use Rattle.std.specs.List.{range_with_len}
use Rattle.rail_specs.specs.Rules.{is_stop}
use Rattle.proposers.proofs.early_braking.stops_of.Given as goal

abbrev pub invariant-loop-i : goal.invariant-loop-i
invariant-loop-i l = l.stops.items ≡ filter (is_stop l.rules) (map (λ i. i + 1) (range_with_len 0 l.i))
