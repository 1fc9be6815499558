use Rattle.std.proofs.Common.{◌≤◌, length}
use Rattle.proposers.specs.Offers.{AreLateCoasting}
use Rattle.proposers.proofs.late_coasting.late_coasting.Given as goal

abbrev pub invariant-loop-k : goal.invariant-loop-k
invariant-loop-k l = record {
  made : AreLateCoasting l.rules l.speeds l.k l.made.items;
  few : length l.made.items ≤ l.k;
}
