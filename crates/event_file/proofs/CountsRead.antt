-- How fields are read as numbers, one by one.
use Rattle.std.proofs.Common.{ℕ, ◌≡◌, ◌+◌, List, ◌++◌, Option, Some, None, length, take}
use Rattle.event_file.specs.Events.{counts_of}

-- numbers before others
abbrev pub before : List ℕ → Option (List ℕ) → Option (List ℕ)
before ns None = None
before ns (Some ms) = Some (ns ++ ms)

-- what was read of fields so far: the first i numbers, with these fields left
pub record Reads (fields : List (List ℕ)) (ns : List ℕ) (i : ℕ) (left : List (List ℕ)) : Type 0 where
  pub numbers : counts_of fields ≡ before (take i ns) (counts_of left)
  pub count : length fields ≡ i + length left
