use Rattle.std.specs.Prelude.{◌≡◌, ◌≤◌, ◌-◌, ◌^◌}
use Rattle.std.specs.Int.RustNames.{unsigned_abs}
use Rattle.costate_bound.specs.Relaxation.{least_from, point_part}
use Rattle.costate_bound.proofs.relaxation.Relaxation.least_charge.Given as goal

-- the least so far is that of the speeds so far
abbrev pub invariant-loop-v : goal.invariant-loop-v
invariant-loop-v l = record {
  value : l.least ≡ least_from (point_part l.self l.k) l.low (l.v - l.low);
  small : unsigned_abs l.least ≤ 2 ^ 84;
}
