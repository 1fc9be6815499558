use Rattle.std.specs.Prelude.{◌≡◌, ◌≤◌, ◌*◌, ◌^◌}
use Rattle.std.specs.Int.RustNames.{unsigned_abs}
use Rattle.rail_specs.specs.Cost.{int_sum_below}
use Rattle.costate_bound.specs.Relaxation.{rest}
use Rattle.costate_bound.proofs.relaxation.Relaxation.rests.Given as goal

-- the rests so far are the sum over the steps so far
abbrev pub invariant-loop-i : goal.invariant-loop-i
invariant-loop-i l = record {
  value : l.rests ≡ int_sum_below (rest l.self) l.i;
  small : unsigned_abs l.rests ≤ l.i * 2 ^ 81;
}
