use Rattle.std.proofs.Common.{sym, ◌∙◌}
use Rattle.event_file.proofs.NameText.{name_utf8}
use Rattle.event_file.proofs.event.next_name.Goals as goal

pub returns-in-Err-clause-name : goal.returns-in-Err-clause-name
returns-in-Err-clause-name c = absurd (c.in-Err.ensures.cases.0 (name_utf8 c.in_ok-field.field.now (sym c.is_name.ensures ∙ c.if-not-is_name.false)))
