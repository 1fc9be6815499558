use Rattle.clap.specs.Words.{found_of}
use Rattle.run_parts.proofs.WordsLemmas.{value-none, value-some}
use Rattle.run_parts.proofs.command_line.value_of.Goals as goal

pub returns-in-Some : goal.returns-in-Some
returns-in-Some c = value-some (found_of c.args.matches.now) c.args.id.now c.in-Some.text.now (rw c.in-Some.is at c.get_str.ensures)

pub returns-in-None : goal.returns-in-None
returns-in-None c = value-none (found_of c.args.matches.now) c.args.id.now (rw c.in-None.is at c.get_str.ensures)
