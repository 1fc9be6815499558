use Rattle.route_file.proofs.NumbersRead.{Reads}
use Rattle.route_file.proofs.line.read_numbers.Given as goal

abbrev pub invariant-loop-number : goal.invariant-loop-number
invariant-loop-number l = Reads l.text l.numbers l.number-index l.fields
