use Rattle.std.proofs.Common.{arith, ap, length}
use Rattle.rail_specs.specs.declared.Timing.{Timing}
use Rattle.std.proofs.lemmas.List.{get_or_default}
use Rattle.rail_specs.specs.Rules.{no_timing}
use Rattle.drive_rules.proofs.rules.Rules.late_at.Goals as goal

pub returns-clause-on_time : goal.returns-clause-on_time
returns-clause-on_time c = λ k d l. rw (get_or_default c.args.self.now.timings k d no_timing l) (c.loop-j.invariant.none k (omega (arith, ap (length {A = Timing}) c.timings-timings.ensures.value)))
