use Rattle.std.specs.Prelude.{◌≡◌, ◌≤◌, ◌*◌, ◌^◌}
use Rattle.std.specs.Int.RustNames.{unsigned_abs}
use Rattle.rail_specs.specs.Cost.{int_sum_below}
use Rattle.costate_bound.specs.Relaxation.{least_part}
use Rattle.costate_bound.proofs.relaxation.Relaxation.least_parts.Given as goal

-- the parts so far are the sum over the points so far
abbrev pub invariant-loop-k : goal.invariant-loop-k
invariant-loop-k l = record {
  value : l.parts ≡ int_sum_below (least_part l.self l.ranges.low l.ranges.high) l.k;
  small : unsigned_abs l.parts ≤ l.k * 2 ^ 84;
}
