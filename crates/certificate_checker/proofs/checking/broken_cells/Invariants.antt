use Rattle.std.proofs.Common.{◌≡◌, None}
use Rattle.rail_base.specs.First.{first_below}
use Rattle.certificate_checker.specs.Refusals.{cells_refusal}
use Rattle.certificate_checker.proofs.checking.broken_cells.Given as goal

abbrev pub invariant-loop-k : goal.invariant-loop-k
invariant-loop-k l = first_below (cells_refusal l.ranges.low l.ranges.high l.points) l.k ≡ None
