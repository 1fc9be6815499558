use Rattle.std.proofs.Common.{◌≡◌, true}
use Rattle.dual_certificate.proofs.FieldLists.{with_front}
use Rattle.costate_text.specs.Grammar.{numbers_read}
use Rattle.costate_text.proofs.reading.number_fields.Given as goal

abbrev pub invariant-loop-field : goal.invariant-loop-field
invariant-loop-field l = record {
  next : (goal.iterator-loop-field).can_next l.fields × (goal.iterator-loop-field).is_finite l.fields;
  read : with_front l.numbers (numbers_read l.n l.low l.high l.in_range l.room l.fields) ≡ numbers_read l.n l.low l.high true l.count l.initial.fields;
}
