-- Drives taken together, and their times.
use Rattle.std.specs.Prelude.{ℕ, ◌≤◌, ◌≡◌, ◌↔◌, max, min, List, length, slice_index}
use Rattle.rail_specs.specs.declared.Narrow.{Narrow}
use Rattle.rail_specs.specs.Rules.{Rules, IsDrive, IsNarrowDrive, IsGreatestDrive, NoDrive}
use Rattle.rail_specs.specs.Ranges.{IsGreatestNarrowDrive, NoNarrowDrive, no_narrowing}
use Rattle.rail_specs.specs.Times.{arrival_up, IsOnTimeUp}
use Rattle.rule_parts.specs.Shaped.{IsShaped}
use Rattle.speed_envelopes.specs.Narrowing.{IsNarrowerThan}

-- c is at each point the greater of a and b
pub record IsGreaterOf (a b c : List ℕ) : Type 0 where
  pub count : length c ≡ length a
  pub each : (k : ℕ) → slice_index c k ≡ max (slice_index a k) (slice_index b k)

-- c is at each point the lesser of a and b
pub record IsLesserOf (a b c : List ℕ) : Type 0 where
  pub count : length c ≡ length a
  pub each : (k : ℕ) → slice_index c k ≡ min (slice_index a k) (slice_index b k)

-- no speed of a is above that of b
abbrev pub IsSlower : List ℕ → List ℕ → Type 0
IsSlower a b = (k : ℕ) → slice_index a k ≤ slice_index b k

-- the greater of two drives is a drive
abbrev pub GreaterIsDrive : Type 0
GreaterIsDrive = (r : Rules) (a b c : List ℕ) → IsShaped r → IsDrive r a → IsDrive r b → IsGreaterOf a b c → IsDrive r c

-- the lesser of two drives is a drive
abbrev pub LesserIsDrive : Type 0
LesserIsDrive = (r : Rules) (a b c : List ℕ) → IsShaped r → IsDrive r a → IsDrive r b → IsLesserOf a b c → IsDrive r c

-- the greater of two drives under a narrowing is one under it
abbrev pub GreaterIsNarrowDrive : Type 0
GreaterIsNarrowDrive = (r : Rules) (n : Narrow) (a b c : List ℕ) → IsShaped r → IsNarrowDrive r n a → IsNarrowDrive r n b → IsGreaterOf a b c → IsNarrowDrive r n c

-- the lesser of two drives under a narrowing is one under it
abbrev pub LesserIsNarrowDrive : Type 0
LesserIsNarrowDrive = (r : Rules) (n : Narrow) (a b c : List ℕ) → IsShaped r → IsNarrowDrive r n a → IsNarrowDrive r n b → IsLesserOf a b c → IsNarrowDrive r n c

-- a drive that is no slower anywhere arrives no later at each point
abbrev pub FasterIsSooner : Type 0
FasterIsSooner = (r : Rules) (a b : List ℕ) (k : ℕ) → IsShaped r → IsDrive r a → IsSlower a b → k ≤ length r.steps → arrival_up r b k ≤ arrival_up r a k

-- so it is on time where the slower one is
abbrev pub FasterIsOnTime : Type 0
FasterIsOnTime = (r : Rules) (a b : List ℕ) → IsShaped r → IsDrive r a → IsSlower a b → IsOnTimeUp r a → IsOnTimeUp r b

-- some drive under a narrowing is on time exactly where the greatest is
abbrev pub GreatestIsOnTime : Type 0
GreatestIsOnTime = (r : Rules) (n : Narrow) (greatest : List ℕ) → IsShaped r → IsGreatestNarrowDrive r n greatest → ((d : List ℕ) × IsNarrowDrive r n d × IsOnTimeUp r d) ↔ IsOnTimeUp r greatest

-- a drive under a narrowing is one under each wider narrowing
abbrev pub NarrowingsNest : Type 0
NarrowingsNest = (r : Rules) (narrow wider : Narrow) (d : List ℕ) → IsNarrowerThan narrow wider → IsNarrowDrive r narrow d → IsNarrowDrive r wider d

-- every drive is one under no narrowing
abbrev pub DriveIsNarrowDrive : Type 0
DriveIsNarrowDrive = (r : Rules) (d : List ℕ) → IsShaped r → IsDrive r d → IsNarrowDrive r no_narrowing d

-- so the greatest drive is the greatest under no narrowing
abbrev pub GreatestIsNarrow : Type 0
GreatestIsNarrow = (r : Rules) (d : List ℕ) → IsShaped r → IsGreatestDrive r d ↔ IsGreatestNarrowDrive r no_narrowing d

-- and there is no drive exactly where there is none under no narrowing
abbrev pub NoDriveIsNarrow : Type 0
NoDriveIsNarrow = (r : Rules) → IsShaped r → NoDrive r ↔ NoNarrowDrive r no_narrowing
