-- The names of a service's calls.
use Rattle.std.specs.Prelude.{ℕ, List, map, drop}
use Rattle.rail_base.specs.Numbers.{trimmed}
use Rattle.line_file.specs.Rows.{Fields, field_of, rows_of}

-- the name in a row: its second field, with spaces at both ends dropped
abbrev pub name_of : Fields → List ℕ
name_of fields = trimmed (field_of fields 1)

-- the names in the rows of a text below its header
abbrev pub names_of : List ℕ → List (List ℕ)
names_of text = map name_of (drop 1 (rows_of text))
