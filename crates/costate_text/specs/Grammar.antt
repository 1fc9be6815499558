-- The costate certificate that a text is, or the first line that is refused, and why: the first line that isn't of its form, or is and has
-- something out of range.
use Rattle.std.specs.Prelude.{ℕ, ◌-◌, ◌==◌, ◌&&◌, ◌^◌, Bool, true, ℤ, pos, negsuc, List, Result, Ok, Err, map, if◌then◌else◌, nat_lt, length, codes}
use Rattle.std.specs.Int.RustNames.{unsigned_abs}
use Rattle.rail_base.specs.Lines.{fields_of}
use Rattle.rail_base.specs.Numbers.{is_within}
use Rattle.dual_certificate.specs.declared.fault.CertFault.{CertFault}
use Rattle.dual_certificate.specs.declared.fault.CertFault.TheVariants.{Form}
use Rattle.dual_certificate.specs.Grammar.{◌>>=◌, ranged, line_at, behind, exact_at, number_at, fields_read, prices_at}
use Rattle.dual_certificate.specs.Numbers.{number_spelled}
use Rattle.costate_text.specs.declared.certificate.CostateCertificate.{CostateCertificate}

-- a number from low to high, where there is room for one more
abbrev pub number_fits : ℤ → ℤ → ℕ → ℤ → Bool
number_fits low high room z = nat_lt 0 room && is_within low high z

abbrev pub room_next : ℕ → ℤ → ℕ
room_next room z = room - 1

abbrev pub as_it_is : ℤ → ℤ
as_it_is z = z

-- what fields of line n say: numbers from low to high, at most so many
abbrev pub numbers_read : ℕ → ℤ → ℤ → Bool → ℕ → List (List ℕ) → Result (List ℤ) CertFault
numbers_read n low high good room fields = fields_read number_spelled (number_fits low high) room_next as_it_is n good room fields

-- line n, which is this word and so many numbers from low to high
unfoldable pub numbers_at : ℕ → List ℕ → ℤ → ℤ → ℕ → List ℕ → Result (List ℤ × List ℕ) CertFault
numbers_at n word low high count text = do
  l ← line_at n text
  rest ← behind n word l.0
  numbers ← numbers_read n low high true count (fields_of rest)
  all ← ranged n (length numbers == count) numbers
  Ok (all, l.1)

-- the speeds of so many points, the costates of the steps between them, the line `end`, and nothing behind it
unfoldable pub lists_at : ℕ → List ℕ → Result (List ℤ × List ℤ) CertFault
lists_at count text = do
  speeds ← numbers_at 6 (codes "speeds ") (pos 0) (pos 12000) count text
  costates ← numbers_at 7 (codes "costates ") (negsuc (2 ^ 22 - 1)) (pos (2 ^ 22)) (count - 1) speeds.1
  nothing ← exact_at 8 (codes "end") costates.1
  if length nothing == 0 then Ok (speeds.0, costates.0) else Err (Form 9)

-- the certificate that a text is
unfoldable pub certificate_of : List ℕ → Result CostateCertificate CertFault
certificate_of text = do
  rest ← exact_at 1 (codes "costate 1") text
  count ← number_at 2 (codes "points ") (pos 2) (pos 4001) rest
  energy ← number_at 3 (codes "energy ") (negsuc (2 ^ 100 - 1)) (pos (2 ^ 100)) count.1
  bound ← number_at 4 (codes "bound ") (negsuc (2 ^ 100 - 1)) (pos (2 ^ 100)) energy.1
  prices ← prices_at bound.1
  lists ← lists_at (unsigned_abs count.0) prices.1
  Ok (record { energy = energy.0; bound = bound.0; prices = prices.0; speeds = map unsigned_abs lists.0; costates = lists.1 })
