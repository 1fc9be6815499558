-- Lists of speeds that no drive under a narrowing goes above.
use Rattle.std.specs.Prelude.{ℕ, ◌+◌, ◌≡◌, ◌≤◌, ◌<◌, List, length, slice_index, true}
use Rattle.rail_specs.specs.declared.Narrow.{Narrow}
use Rattle.rail_specs.specs.Rules.{Rules, is_stop, IsNarrowDrive}
use Rattle.speed_envelopes.specs.Bounds.{least_speed}

-- speeds within the cap, the limits and the top, at most the start speed at first and 0 at each stop
pub record IsCapped (r : Rules) (n : Narrow) (speeds : List ℕ) : Type 0 where
  pub count : length speeds ≡ length r.steps + 1
  pub start : slice_index speeds 0 ≤ r.start
  pub stops : (k : ℕ) → 1 ≤ k → is_stop r k ≡ true → slice_index speeds k ≡ 0
  pub limits : (i : ℕ) → i < length r.steps → (slice_index speeds i ≤ slice_index r.limits i) × (slice_index speeds (i + 1) ≤ slice_index r.limits i)
  pub top : (k : ℕ) → slice_index speeds k ≤ r.top
  pub cap : (k : ℕ) → slice_index speeds k ≤ n.cap

-- no drive under the narrowing is faster anywhere
abbrev pub IsAbove : Rules → Narrow → List ℕ → Type 0
IsAbove r n speeds = (d : List ℕ) → IsNarrowDrive r n d → (k : ℕ) → slice_index d k ≤ slice_index speeds k

-- a speed at point k that is within what the point allows by itself, and that no drive under the narrowing exceeds there
pub record IsCeiling (r : Rules) (n : Narrow) (k v : ℕ) : Type 0 where
  pub start : k ≡ 0 → v ≤ r.start
  pub stop : 1 ≤ k → is_stop r k ≡ true → v ≡ 0
  pub entry : k < length r.steps → v ≤ slice_index r.limits k
  pub exit : (i : ℕ) → i + 1 ≡ k → v ≤ slice_index r.limits i
  pub top : v ≤ r.top
  pub cap : v ≤ n.cap
  pub above : (d : List ℕ) → IsNarrowDrive r n d → slice_index d k ≤ v

-- at each point what the least speed that it allows by itself lacks of the top
pub record LackOfTop (r : Rules) (levels : List ℕ) : Type 0 where
  pub count : length levels ≡ length r.steps + 1
  pub each : (k : ℕ) → k ≤ length r.steps → slice_index levels k + least_speed r k ≡ r.top

-- there is a drive under the narrowing
abbrev pub SomeNarrowDrive : Rules → Narrow → Type 0
SomeNarrowDrive r n = (d : List ℕ) × IsNarrowDrive r n d
