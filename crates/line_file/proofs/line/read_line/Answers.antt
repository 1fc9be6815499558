use Rattle.line_file.proofs.RowFileLemmas.{told}
use Rattle.line_file.proofs.LineShape.{line-IsLine}
use Rattle.line_file.specs.Shape.{IsLine}
use Rattle.line_file.specs.LineText.{line_of}
use Rattle.line_file.specs.declared.line.LineFault.TheVariants.{NoMemory}
use Rattle.line_file.proofs.line.read_line.Goals as goal

pub returns-clause-shape : goal.returns-clause-shape
returns-clause-shape c = told IsLine NoMemory (line_of c.args.text.now) c.read_file.result (line-IsLine c.args.text.now) c.read_file.ensures
