use Rattle.std.proofs.Common.{length, ◌-◌, ℕ, ◌<◌, ◌≤◌, slice_index_or}
use Rattle.rail_specs.specs.Rules.{no_timing}
use Rattle.rule_changes.proofs.advance.passed_at.Given as goal

abbrev pub invariant-loop-count : goal.invariant-loop-count
invariant-loop-count l = (l.count ≤ length l.timings) × ((h : ℕ) → h < l.count → (slice_index_or l.timings h no_timing).point ≤ l.k)

abbrev pub decreases-loop-count : goal.decreases-loop-count
decreases-loop-count l = length l.timings - l.count
