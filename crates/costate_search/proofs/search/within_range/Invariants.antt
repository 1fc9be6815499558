use Rattle.std.proofs.Common.{◌≡◌, map, take}
use Rattle.costate_search.specs.Course.{within_range}
use Rattle.costate_search.proofs.search.within_range.Given as goal

abbrev pub invariant-loop-costate : goal.invariant-loop-costate
invariant-loop-costate l = l.kept.items ≡ map within_range (take l.costate-index l.costates)
