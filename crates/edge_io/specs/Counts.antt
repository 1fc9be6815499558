-- Counts of faults.
use Rattle.std.specs.Prelude.{◌+◌, ◌-◌, ◌^◌, Bool, true, false, ℕ, List, [], ◌∷◌, if◌then◌else◌, map, max, min, String, string_bytes}
use Rattle.std.specs.BTreeMap.{BTreeMap}
use Rattle.std.specs.Str.{bytes_eq}
use Rattle.std.specs.declared.alloc.Global.{Global}

-- the count of a name among counts by name, and 0 where it has none
abbrev pub count_in : List (List ℕ × ℕ) → List ℕ → ℕ
count_in [] name = 0
count_in (c ∷ counts) name = if bytes_eq name c.0 then c.1 else count_in counts name

-- whether a name has a count
abbrev pub has_name : List (List ℕ × ℕ) → List ℕ → Bool
has_name [] name = false
has_name (c ∷ counts) name = if bytes_eq name c.0 then true else has_name counts name

-- a count of 64 bits after one more fault; it stays where it stands at its end
abbrev pub raised : ℕ → ℕ
raised count = max count (min (count + 1) (2 ^ 64 - 1))

-- the counts of a map, by name
abbrev pub counts_of : BTreeMap (String Global) ℕ → List (List ℕ × ℕ)
counts_of m = map (λ e. (string_bytes e.0, e.1)) m.entries
