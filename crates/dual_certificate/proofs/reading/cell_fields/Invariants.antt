use Rattle.std.proofs.Common.{◌≡◌, ◌≤ℤ◌, ◌+◌, length, pos, true}
use Rattle.dual_certificate.specs.Grammar.{cells_read}
use Rattle.dual_certificate.proofs.FieldLists.{with_front}
use Rattle.dual_certificate.proofs.reading.cell_fields.Given as goal

abbrev pub invariant-loop-field : goal.invariant-loop-field
invariant-loop-field l = record {
  next : (goal.iterator-loop-field).can_next l.fields × (goal.iterator-loop-field).is_finite l.fields;
  read : with_front l.cells (cells_read l.n l.greatest l.in_range (l.left, l.least) l.fields) ≡ cells_read l.n l.greatest l.fits (l.room, pos 0) l.initial.fields;
  few : length l.cells + l.left ≡ l.room;
  least : pos 0 ≤ℤ l.least;
  fits : l.in_range ≡ true → l.fits ≡ true;
}
