use Rattle.std.proofs.Common.{◌+◌, ◌/◌}
use Rattle.distance_grid.proofs.Places.{HasMore, IsMultiple}
use Rattle.distance_grid.proofs.grid.push_multiples.Given as goal

abbrev pub invariant-loop-k : goal.invariant-loop-k
invariant-loop-k l = HasMore l.places.items l.fn.places.items (IsMultiple l.step (l.from / l.step + 1) l.k)
