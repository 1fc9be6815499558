use Rattle.std.proofs.Common.{◌≡◌, false, length}
use Rattle.line_file.specs.Rows.{IsReading, records_left, rows_left}
use Rattle.line_file.proofs.rows.Rows.next.Given as goal

abbrev pub invariant-loop-row : goal.invariant-loop-row
invariant-loop-row l = (l.self-inside.done ≡ false) × IsReading l.self-inside.reader × (rows_left l.initial.self-inside.reader ≡ rows_left l.self-inside.reader)

abbrev pub decreases-loop-row : goal.decreases-loop-row
decreases-loop-row l = length (records_left l.self-inside.reader)
