use Rattle.std.proofs.Common.{◌≡◌, true}
use Rattle.dual_certificate.specs.Grammar.{prices_read}
use Rattle.dual_certificate.proofs.FieldLists.{with_front}
use Rattle.dual_certificate.proofs.reading.price_fields.Given as goal

abbrev pub invariant-loop-field : goal.invariant-loop-field
invariant-loop-field l = record {
  next : (goal.iterator-loop-field).can_next l.fields × (goal.iterator-loop-field).is_finite l.fields;
  read : with_front l.prices (prices_read l.in_range l.room l.fields) ≡ prices_read true 64 l.initial.fields;
}
