use Rattle.std.proofs.Common.{◌≡◌, ◌≤◌, ◌+◌, ◌^◌, drop, min}
use Rattle.std.specs.Str.{all_ascii_digits}
use Rattle.std.specs.Str.Parse.{digits_value, digits_value_after}
use Rattle.dual_certificate.proofs.number.read_long.Given as goal

abbrev pub invariant-loop-digit : goal.invariant-loop-digit
invariant-loop-digit l = record {
  value : min (digits_value 10 l.text) (2 ^ 100 + 1) ≡ min (digits_value_after 10 l.size (drop l.digit-index l.text)) (2 ^ 100 + 1);
  digits : all_ascii_digits l.text ≡ all_ascii_digits (drop l.digit-index l.text);
  small : l.size ≤ 2 ^ 100 + 1;
}
