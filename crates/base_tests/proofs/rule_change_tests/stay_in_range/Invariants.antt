use Rattle.std.proofs.Common.{ℕ, ◌<◌, get_or, negsuc, ◌≤ℤ◌, ◌-ℤ◌}
use Rattle.rail_specs.specs.Rules.{no_timing}
use Rattle.base_tests.proofs.rule_change_tests.stay_in_range.Given as goal

abbrev pub invariant-loop-timing : goal.invariant-loop-timing
invariant-loop-timing l = record { stay : (h : ℕ) → h < l.timing-index → negsuc 172799999 ≤ℤ ((get_or l.timings h no_timing).latest -ℤ l.fn.later) }
