-- How fields are read as numbers, one by one.
use Rattle.std.proofs.Common.{ℕ, ◌≡◌, ◌+◌, List, ◌++◌, Option, Some, None, length, take, refl, Bool, true, false, if◌then◌else◌}
use Rattle.std.specs.Prelude.{ℤ}
use Rattle.rail_base.specs.Lines.{fields_of, numbers_of}

-- numbers before others
abbrev pub before : List ℤ → Option (List ℤ) → Option (List ℤ)
before ns None = None
before ns (Some ms) = Some (ns ++ ms)

-- what was read of a text so far: the first i numbers, with these fields left
pub record Reads (text : List ℕ) (ns : List ℤ) (i : ℕ) (left : List (List ℕ)) : Type 0 where
  pub numbers : numbers_of (fields_of text) ≡ before (take i ns) (numbers_of left)
  pub count : length (fields_of text) ≡ i + length left

pub some_then : {X : Type 0} (b : Bool) (x y : X) → Some x ≡ (if b then Some y else None) → (b ≡ true) × (x ≡ y)
some_then true x y h = (refl, cc h)
some_then false x y h = absurd (cc h)

pub none_then : {X : Type 0} (b : Bool) (y : X) → None ≡ (if b then Some y else None) → b ≡ false
none_then true y h = absurd (cc h)
none_then false y h = refl
