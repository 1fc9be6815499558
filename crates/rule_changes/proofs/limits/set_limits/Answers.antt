use Rattle.std.proofs.Common.{refl}
use Rattle.rule_parts.specs.Shaped.{rules_of}
use Rattle.rule_changes.proofs.LimitsKept.{least_limits, limits_shaped}
use Rattle.rule_changes.proofs.limits.set_limits.Goals as goal

pub returns-clause-limited : goal.returns-clause-limited
returns-clause-limited c =
    let is = rw (c.items.ensures, c.deref.ensures.value) at c.set_step_limits.ensures in
    record { rest = refl; limits = least_limits c.args.line.now c.args.stretches.now (rules_of c.args.parts.now) c.set_step_limits.new.limits.items c.requires.shaped is }

pub returns-clause-shaped : goal.returns-clause-shaped
returns-clause-shaped c =
    let is = rw (c.items.ensures, c.deref.ensures.value) at c.set_step_limits.ensures in
    limits_shaped c.args.line.now c.args.stretches.now (rules_of c.args.parts.now) c.set_step_limits.new.limits.items c.requires.line c.requires.stretches c.requires.shaped is
