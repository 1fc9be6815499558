-- A name is a text.
use Rattle.std.proofs.Common.{ℕ, ◌≡◌, ◌<◌, ◌&&◌, Bool, true, false, List, [], ◌∷◌, arith, length, nat_le, zero, suc, nat_lt}
use Rattle.std.proofs.lemmas.Bool.Decides.{nat_tests}
use Rattle.std.specs.List.{list_all}
use Rattle.std.specs.Str.{IsAscii, IsUtf8}
use Rattle.std.proofs.lemmas.Str.{IsUtf8-from_ascii}
use Rattle.event_file.specs.Names.{is_name_byte, is_name}

both : (a b : Bool) → (a && b) ≡ true → (a ≡ true) × (b ≡ true)
both true b h = (cc, h)
both false b h = absurd (cc h)

-- a byte of a name is one of ASCII
byte_ascii : (b : ℕ) → is_name_byte b ≡ true → b < 128
byte_ascii b h = grind (arith, nat_tests)

bytes_ascii : (text : List ℕ) → list_all is_name_byte text ≡ true → IsAscii text
bytes_ascii [] h i = omega arith
bytes_ascii (b ∷ bs) h zero = byte_ascii b (both (is_name_byte b) (list_all is_name_byte bs) h).0
bytes_ascii (b ∷ bs) h (suc i) = bytes_ascii bs (both (is_name_byte b) (list_all is_name_byte bs) h).1 i

pub name_utf8 : (text : List ℕ) → is_name text ≡ true → IsUtf8 text
name_utf8 text h =
    IsUtf8-from_ascii text (bytes_ascii text (both (nat_lt 0 (length text) && nat_le (length text) 32) (list_all is_name_byte text) h).1)
