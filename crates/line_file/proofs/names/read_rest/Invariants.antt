use Rattle.std.proofs.Common.{◌≡◌, ◌++◌, map, length}
use Rattle.line_file.specs.Names.{name_of}
use Rattle.line_file.proofs.names.read_rest.Given as goal

abbrev pub invariant-loop-names : goal.invariant-loop-names
invariant-loop-names l = record {
  known : map name_of l.initial.rows ≡ l.names ++ map name_of l.rows;
}

abbrev pub decreases-loop-names : goal.decreases-loop-names
decreases-loop-names l = length l.rows
