-- Lists of levels, one for each point, that keep every step.
use Rattle.std.specs.Prelude.{ℕ, ◌+◌, ◌≡◌, ◌≤◌, ◌<◌, ◌≤ℤ◌, List, length, slice_index, slice_set, Option, Some, None, Bool, true, false, sum}
use Rattle.speed_envelopes.specs.declared.bounds.End.{End}
use Rattle.speed_envelopes.specs.declared.bounds.End.TheVariants.{Exit, Entry}
use Rattle.speed_envelopes.specs.Bounds.{Setting, asks, gives, floor, IsLevelPair}

-- the greatest number of which P holds, or none where it holds of no number
abbrev pub IsGreatest : Option ℕ → (ℕ → Type 0) → Type 0
IsGreatest (Some v) P = P v × ((w : ℕ) → P w → w ≤ v)
IsGreatest None P = (w : ℕ) → P w → ⊥

-- the point at this end of step i, and the point at the other end
abbrev pub point_at : End → ℕ → ℕ
point_at Exit i = i + 1
point_at Entry i = i

abbrev pub point_opposite : End → ℕ → ℕ
point_opposite Exit i = i
point_opposite Entry i = i + 1

-- the levels at both ends of step i are such that each gives what the other asks
abbrev pub IsLevelStep : Setting → List ℕ → ℕ → Type 0
IsLevelStep s levels i = IsLevelPair s i (slice_index levels i) (slice_index levels (i + 1))

-- no level is below its floor or above the top
pub record AreFloored (s : Setting) (levels : List ℕ) : Type 0 where
  pub count : length levels ≡ length s.rules.steps + 1
  pub floors : (k : ℕ) → k ≤ length s.rules.steps → floor s k ≤ slice_index levels k
  pub top : (k : ℕ) → slice_index levels k ≤ s.rules.top

-- levels that keep every step
pub record AreLevels (s : Setting) (levels : List ℕ) : Type 0 where
  pub floored : AreFloored s levels
  pub steps : (i : ℕ) → i < length s.rules.steps → IsLevelStep s levels i

-- no level of a is above that of b
abbrev pub IsBelow : List ℕ → List ℕ → Type 0
IsBelow a b = (k : ℕ) → slice_index a k ≤ slice_index b k

-- of the levels below `from` that keep every step, none is above `levels`
abbrev pub Covers : Setting → List ℕ → List ℕ → Type 0
Covers s from levels = (d : List ℕ) → AreLevels s d → IsBelow d from → IsBelow d levels

-- no levels below `from` keep every step
abbrev pub NoneBelow : Setting → List ℕ → Type 0
NoneBelow s from = (d : List ℕ) → AreLevels s d → IsBelow d from → ⊥

-- the levels at the ends of step i were lowered, the entry where `moved` says so: no more than what other levels that keep
-- every step allow, and where the entry stayed, so that the step is kept
pub record Tightens (s : Setting) (i : ℕ) (old new : List ℕ) (moved : Bool) : Type 0 where
  pub floored : AreFloored s new
  pub below : IsBelow new old
  pub covers : (from : List ℕ) → Covers s from old → Covers s from new
  pub others : (k : ℕ) → k < i → slice_index new k ≡ slice_index old k
  pub entry : moved ≡ false → slice_index new i ≡ slice_index old i
  pub kept : moved ≡ false → IsLevelStep s new i
  pub no_more : sum new ≤ sum old
  pub fewer : moved ≡ true → sum new < sum old

-- the level at one end of step i was lowered to the greatest that the other end allows, or stood so already
pub record Lowers (s : Setting) (end : End) (i : ℕ) (old new : List ℕ) (moved : Bool) : Type 0 where
  pub others : new ≡ slice_set old (point_at end i) (slice_index new (point_at end i))
  pub kept : asks s end i (slice_index new (point_at end i)) ≤ℤ gives s end i (slice_index new (point_opposite end i))
  pub floored : floor s (point_at end i) ≤ slice_index new (point_at end i)
  pub greatest : (w : ℕ) → floor s (point_at end i) ≤ w → w ≤ slice_index old (point_at end i) → asks s end i w ≤ℤ gives s end i (slice_index old (point_opposite end i)) → w ≤ slice_index new (point_at end i)
  pub fewer : moved ≡ true → slice_index new (point_at end i) < slice_index old (point_at end i)
  pub same : moved ≡ false → new ≡ old

-- no level at one end of step i, from the floor to the present one, asks for what the other end gives
abbrev pub NoLevel : Setting → End → ℕ → List ℕ → Type 0
NoLevel s end i levels = (w : ℕ) → floor s (point_at end i) ≤ w → w ≤ slice_index levels (point_at end i) → asks s end i w ≤ℤ gives s end i (slice_index levels (point_opposite end i)) → ⊥

-- at each point the two together make the top
pub record AreComplements (top : ℕ) (old new : List ℕ) : Type 0 where
  pub count : length new ≡ length old
  pub each : (k : ℕ) → k < length old → slice_index new k + slice_index old k ≡ top
