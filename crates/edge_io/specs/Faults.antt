-- What files and written bytes mean, and when a fault of reading or writing may come.
use Rattle.std.specs.Prelude.{◌≡◌, ◌+◌, ◌-◌, ◌^◌, ◌≤◌, ◌<◌, ◌++◌, ⊤, ℕ, List, Option, Some, None, Result, OnErr, take, length, min}

-- a count of faults has risen, or stands at its end
abbrev pub Rose : ℕ → ℕ → Type 0
Rose before now = min (before + 1) (2 ^ 64 - 1) ≤ now

-- a failure comes only where the count rose, and the count never falls
pub record HasCause {T E : Type 0} (before now : ℕ) (result : Result T E) : Type 0 where
  pub later : before ≤ now
  pub failed : OnErr result (Rose before now)

-- what a shelf tells of a name: nothing, that it has no such file, or the file's bytes
abbrev pub Told : Type 0
Told = Option (Option (List ℕ))

-- what was fetched are the first `most` bytes of the file, where the shelf tells them
abbrev pub Fetches : Told → ℕ → List ℕ → Type 0
Fetches None most got = ⊤
Fetches (Some None) most got = ⊥
Fetches (Some (Some file)) most got = got ≡ take most file

-- the bytes written, where they are told, have these more at their end; whether they are told stays
abbrev pub Appends : Option (List ℕ) → List ℕ → Option (List ℕ) → Type 0
Appends None more None = ⊤
Appends None more (Some now) = ⊥
Appends (Some old) more None = ⊥
Appends (Some old) more (Some now) = now ≡ old ++ more

-- n bytes of the piece were put, at least one where there is one
abbrev pub Puts : Option (List ℕ) → List ℕ → Option (List ℕ) → ℕ → Type 0
Puts old piece now n = (n ≤ length piece) × (0 < length piece → 0 < n) × Appends old (take n piece) now
