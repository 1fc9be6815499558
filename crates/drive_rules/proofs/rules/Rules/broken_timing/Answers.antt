use Rattle.std.proofs.Common.{◌≡◌, None, rules, sym, ◌∙◌}
use Rattle.drive_rules.proofs.KeptLemmas.{none_late, some_late}
use Rattle.drive_rules.proofs.rules.Rules.broken_timing.Goals as goal

pub returns-in_err-late : goal.returns-in_err-late
returns-in_err-late c =
    let none : c.from_residual.result ≡ None = search rules in
    none ∙ sym (none_late c.args.self.now c.args.speeds.now c.in_err-late.ensures.on_time)

pub returns : goal.returns
returns c = rw c.timings.ensures.value (sym (some_late c.args.self.now c.args.speeds.now c.in_ok-late.late.timing c.in_ok-late.ensures.late))
