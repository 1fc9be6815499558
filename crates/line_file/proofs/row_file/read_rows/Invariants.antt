use Rattle.std.proofs.Common.{◌≡◌, ◌≤◌, [], length, take, drop}
use Rattle.line_file.specs.RowFile.{rows_fault}
use Rattle.line_file.proofs.row_file.read_rows.Given as goal

abbrev pub invariant-loop-read : goal.invariant-loop-read
invariant-loop-read g l = record {
  few : l.n ≤ g.F.RowFile.most_rows;
  within : l.n ≤ length l.initial.rows;
  left : l.rows ≡ drop l.n l.initial.rows;
  read : l.read ≡ g.F.RowFile.from_rows (take l.n l.initial.rows);
  fault : rows_fault g.F.RowFile.from_rows g.F.RowFile.row_fault [] l.initial.rows ≡ rows_fault g.F.RowFile.from_rows g.F.RowFile.row_fault (take l.n l.initial.rows) l.rows;
}

abbrev pub decreases-loop-read : goal.decreases-loop-read
decreases-loop-read g l = length l.rows
