-- What a name of a restriction is.
use Rattle.std.specs.Prelude.{ℕ, ◌==◌, ◌&&◌, ◌||◌, Bool, List, nat_le, nat_lt, length}
use Rattle.std.specs.List.{list_all}

-- a byte from 'a' to 'z', from '0' to '9', or '-'
abbrev pub is_name_byte : ℕ → Bool
is_name_byte b = (nat_le 97 b && nat_le b 122) || (nat_le 48 b && nat_le b 57) || b == 45

-- a text is 1 to 32 such bytes
abbrev pub is_name : List ℕ → Bool
is_name text = nat_lt 0 (length text) && nat_le (length text) 32 && list_all is_name_byte text
