-- What holds of the rules of every run.
use Rattle.std.specs.Prelude.{ℕ, ◌+◌, ◌-◌, ◌≡◌, ◌≤◌, ◌<◌, List, length, slice_index, slice_index_or, All, true}
use Rattle.std.specs.Int.RustNames.{unsigned_abs}
use Rattle.rail_specs.specs.declared.Timing.{Timing}
use Rattle.rail_specs.specs.Rules.{Rules, IsPassed, step_at, timing_at, is_stop, no_timing}
use Rattle.rail_specs.specs.Step.{IsInRange, HasSmallDrag}
use Rattle.rail_specs.specs.Table.{IsForceTable}
use Rattle.rule_parts.specs.declared.Parts.{Parts}

-- the rules that these parts stand for: contracts see each list of the parts as its items
abbrev pub rules_of : Parts → Rules
rules_of p = record {
  start = p.start;
  top = p.top;
  traction = p.traction;
  brake = p.brake;
  train_length = p.train_length;
  steps = p.rows.items;
  limits = p.limits.items;
  places = p.places.items;
  stops = p.stops.items;
  dwells = p.dwells.items;
  timings = p.timings.items;
}

-- each timing point lies after the one before it
abbrev pub Rises : List Timing → Type 0
Rises ts = (j : ℕ) → j + 1 < length ts → (slice_index_or ts j no_timing).point < (slice_index_or ts (j + 1) no_timing).point

-- what holds of the rules of every run
pub record IsShaped (r : Rules) : Type 0 where
  pub some : 1 ≤ length r.steps
  pub few : length r.steps ≤ 4000
  pub top : r.top ≤ 12000
  pub start : r.start ≤ 12000
  pub traction_top : length r.traction ≡ r.top + 1
  pub brake_top : length r.brake ≡ r.top + 1
  pub traction : IsForceTable r.traction
  pub brake : IsForceTable r.brake
  pub short_train : r.train_length ≤ 1000
  pub numbers : (i : ℕ) → i < length r.steps → IsInRange (step_at r i)
  pub small_drag : (i : ℕ) → i < length r.steps → HasSmallDrag (step_at r i)
  pub limits : length r.limits ≡ length r.steps
  pub low_limits : (i : ℕ) → slice_index r.limits i ≤ 12000
  pub places : length r.places ≡ length r.steps + 1
  pub far : (k : ℕ) → slice_index r.places k ≤ 4000000
  pub metres : (i : ℕ) → i < length r.steps → slice_index r.places (i + 1) ≡ slice_index r.places i + (step_at r i).metres
  pub stops : length r.stops ≡ length r.steps + 1
  pub last_stop : is_stop r (length r.steps) ≡ true
  pub dwells : length r.dwells ≡ length r.steps + 1
  pub first_dwell : slice_index r.dwells 0 ≡ 0
  pub short_dwells : (k : ℕ) → slice_index r.dwells k ≤ 7200000
  pub some_timings : 1 ≤ length r.timings
  pub few_timings : length r.timings ≤ 64
  pub rising : Rises r.timings
  pub timings : All (λ t. (1 ≤ t.point) × (t.point ≤ length r.steps) × (unsigned_abs t.latest ≤ 172800000)) r.timings
  pub last_timing : (timing_at r (length r.timings - 1)).point ≡ length r.steps
  -- no step begins and ends at a standstill
  pub moving : (i v0 v1 : ℕ) → i < length r.steps → (i ≡ 0 → v0 ≡ r.start) → (1 ≤ i → IsPassed r i v0) → IsPassed r (i + 1) v1 → 1 ≤ v0 + v1
