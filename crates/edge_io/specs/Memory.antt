-- What a shelf in memory and a sink in memory hold, and what their next call does.
use Rattle.std.specs.Prelude.{◌==◌, ◌||◌, ◌+◌, ◌-◌, ◌^◌, ◌++◌, Bool, ℕ, List, [], ◌∷◌, Option, Some, None}
use Rattle.std.specs.Prelude.{if◌then◌else◌, is_none, unwrap_or, nat_le, min, length, take}
use Rattle.std.specs.List.{list_any}
use Rattle.std.specs.Str.{bytes_eq}
use Rattle.edge_io.specs.Counts.{raised}

-- a shelf in memory: its files by name, in order; the numbers, from 1, of the calls that fail; how many calls there
-- were; and the counts of faults by name
pub record MemoryFiles : Type 0 where
  pub files : List (List ℕ × List ℕ)
  pub fails : List ℕ
  pub calls : ℕ
  pub faults : List (List ℕ × ℕ)

-- the first file of a name
abbrev pub file_of : List (List ℕ × List ℕ) → List ℕ → Option (List ℕ)
file_of [] name = None
file_of (f ∷ files) name = if bytes_eq f.0 name then Some f.1 else file_of files name

-- whether the call after so many calls is among those that fail
abbrev pub is_listed : List ℕ → ℕ → Bool
is_listed fails calls = list_any (λ n. n == calls + 1) fails

-- the number of calls after one more; it stays where it stands at its end
abbrev pub counted : ℕ → ℕ
counted calls = min (calls + 1) (2 ^ 64 - 1)

-- the file that the next fetch of a name takes its bytes from; none where the call fails
abbrev pub next_file : MemoryFiles → List ℕ → Option (List ℕ)
next_file shelf name = if is_listed shelf.fails shelf.calls then None else file_of shelf.files name

-- a sink in memory: how many bytes it takes at once, and in all; the numbers, from 1, of the calls that fail; how many
-- calls with bytes there were; its count of faults; and the bytes that were put
pub record MemoryBytes : Type 0 where
  pub piece : ℕ
  pub room : ℕ
  pub fails : List ℕ
  pub calls : ℕ
  pub faults : ℕ
  pub written : List ℕ

-- how many bytes the next put of a piece that has some takes; none where it fails
abbrev pub next_count : MemoryBytes → List ℕ → Option ℕ
next_count sink piece =
    if is_listed sink.fails sink.calls || nat_le sink.room (length sink.written) then None
    else Some (min (min sink.piece (length piece)) (sink.room - length sink.written))

-- the sink after the next put of a piece that has bytes
abbrev pub after_put : MemoryBytes → List ℕ → MemoryBytes
after_put sink piece = record sink {
  calls = counted sink.calls;
  faults = if is_none (next_count sink piece) then raised sink.faults else sink.faults;
  written = sink.written ++ take (unwrap_or (next_count sink piece) 0) piece;
}
