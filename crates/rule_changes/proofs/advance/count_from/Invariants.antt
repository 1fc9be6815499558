use Rattle.std.proofs.Common.{◌≡◌, ℕ, ◌<◌, ◌≤◌, length, slice_index_or}
use Rattle.rail_specs.specs.Rules.{no_timing}
use Rattle.rule_changes.specs.Advance.{timing_from}
use Rattle.rule_changes.proofs.advance.count_from.Given as goal

abbrev pub invariant-loop-timing : goal.invariant-loop-timing
invariant-loop-timing l =
    (length l.timing-items ≡ length l.fn.timings.items)
    × ((h : ℕ) → h < l.timing-index → slice_index_or l.timing-items h no_timing ≡ timing_from l.k l.later (slice_index_or l.fn.timings.items h no_timing))
    × ((h : ℕ) → l.timing-index ≤ h → slice_index_or l.timing-items h no_timing ≡ slice_index_or l.fn.timings.items h no_timing)
