use Rattle.std.specs.Prelude.{◌≡◌, ◌≤◌, ◌*◌, ◌^◌, pos, ◌*ℤ◌, slice_index}
use Rattle.std.specs.Int.RustNames.{unsigned_abs}
use Rattle.rail_specs.specs.Times.{slack_of}
use Rattle.rail_specs.specs.Cost.{int_sum_below}
use Rattle.link_costs.proofs.slack.slack_charge.Given as goal

-- the charge so far is the sum over the timing points so far
abbrev pub invariant-loop-j : goal.invariant-loop-j
invariant-loop-j l =
    (l.charge ≡ int_sum_below (λ h. pos (slice_index l.prices.values h) *ℤ slack_of l.rules h) l.j) × (unsigned_abs l.charge ≤ l.j * 2 ^ 85)
