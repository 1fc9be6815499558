use Rattle.std.proofs.Common.{◌∙◌}
use Rattle.rail_base.proofs.LineLemmas.{lines_of-lines}
use Rattle.rail_base.proofs.lines.text_lines.Goals as goal

pub returns : goal.returns
returns c = c.lines.ensures.value ∙ lines_of-lines c.args.text.now
