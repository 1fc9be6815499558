use Rattle.std.proofs.Common.{◌∙◌}
use Rattle.sheet_parts.proofs.NameLemmas.{told}
use Rattle.sheet_parts.proofs.names.is_text.Goals as goal

pub returns : goal.returns
returns c = c.is_ok.ensures.value ∙ told _ _ c.from_utf8.result c.args.name.now c.from_utf8.ensures.cases
