use Rattle.std.proofs.Common.{length, ◌≡◌, ◌≤◌, take}
use Rattle.rail_base.specs.Numbers.{before_spaces}
use Rattle.run_sheet.proofs.calls.without_end_spaces.Given as goal

abbrev pub invariant-loop-to : goal.invariant-loop-to
invariant-loop-to l = record { within : l.to ≤ length l.text; same : before_spaces l.text ≡ before_spaces (take l.to l.text) }

abbrev pub decreases-loop-to : goal.decreases-loop-to
decreases-loop-to l = l.to
