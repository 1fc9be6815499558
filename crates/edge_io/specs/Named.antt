-- Files with their names.
use Rattle.std.specs.Prelude.{ℕ, List, map, String, Vec, string_bytes}
use Rattle.std.specs.declared.alloc.Global.{Global}

-- the files as pairs of a name's bytes and a file's bytes
abbrev pub named : List (String Global × Vec ℕ Global) → List (List ℕ × List ℕ)
named files = map (λ f. (string_bytes f.0, f.1.items)) files
