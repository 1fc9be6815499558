use Rattle.std.proofs.Common.{◌∙◌, ap}
use Rattle.line_file.specs.LineText.{line_of}
use Rattle.line_file.specs.declared.line.LineFault.TheVariants as fault
use Rattle.sample_rules.proofs.Answered.{never}
use Rattle.sample_rules.proofs.LinePasses.{line-says, sample_line}
use Rattle.sample_rules.proofs.reading.line_said.Goals as goal

pub unreachable-requires : goal.unreachable-requires
unreachable-requires c =
    never c.read_line.result (line_of c.args.text.now) fault.NoMemory c.in-Err.fault (sample_line c.args.n) c.read_line.ensures.answer c.in-Err.is c.in_default.not-NoMemory
    (ap line_of c.requires ∙ line-says c.args.n)
