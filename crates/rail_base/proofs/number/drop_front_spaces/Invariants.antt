use Rattle.std.proofs.Common.{length, ◌-◌, ◌≡◌, ◌≤◌, drop}
use Rattle.rail_base.specs.Numbers.{after_spaces}
use Rattle.rail_base.proofs.number.drop_front_spaces.Given as goal

abbrev pub invariant-loop-from : goal.invariant-loop-from
invariant-loop-from l = record { within : l.from ≤ length l.text; same : after_spaces l.text ≡ after_spaces (drop l.from l.text) }

abbrev pub decreases-loop-from : goal.decreases-loop-from
decreases-loop-from l = length l.text - l.from
