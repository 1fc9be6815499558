-- The rules of a run stay so when the latest time of a point is set.
use Rattle.std.proofs.Common.{ℕ, ℤ, ◌≡◌, ◌<◌, ◌≤◌, ◌-◌, ◌∙◌, List, length, get_or, subst, sym, ap, arith, inl, inr}
use Rattle.std.specs.Prelude.{Result, Ok, Err, OnOk, OnErr}
use Rattle.std.specs.Int.RustNames.{unsigned_abs}
use Rattle.std.proofs.lemmas.Bool.{cases_eq}
use Rattle.std.proofs.lemmas.List.Elements.{All-from_get_or}
use Rattle.rail_specs.specs.declared.Timing.{Timing}
use Rattle.rail_specs.specs.Rules.{Rules, no_timing}
use Rattle.rule_parts.specs.Shaped.{IsShaped}
use Rattle.rule_changes.specs.Latest.{IsLatestSet, with_latest}
use Rattle.rule_changes.proofs.LatestLists.{points_rise}

-- a timing point of a run over n steps
abbrev IsTiming : ℕ → Timing → Type 0
IsTiming n t = (1 ≤ t.point) × (t.point ≤ n) × (unsigned_abs t.latest ≤ 172800000)

pub latest_shaped : (r : Rules) (point : ℕ) (latest : ℤ) (ts : List Timing) → IsShaped r → 1 ≤ point → point ≤ length r.steps → unsigned_abs latest ≤ 172800000 →
    IsLatestSet r.timings point latest ts → length ts ≤ 64 → IsShaped (record r { timings = ts })
latest_shaped r point latest ts h after there small set few =
    let n : ℕ = length r.steps in
    let k : ℕ = length r.timings - 1 in
    let last_in : k < length r.timings = (let some = h.some_timings in omega (arith, some)) in
    let given : IsTiming n (record { point = point; latest = latest }) = (after, there, small) in
    let each : (j : ℕ) → j < length ts → IsTiming n (get_or ts j no_timing) = λ j l. elim (set.each j l) [
      | inl e ↦ subst (IsTiming n) (sym e) given
      | inr (_, g, m, e) ↦ subst (IsTiming n) (sym e) (h.timings g no_timing m)
    ] in
    -- one of them stands at the last point
    let ended : (j : ℕ) × (j < length ts) × ((get_or ts j no_timing).point ≡ n) = elim (cases_eq (get_or r.timings k no_timing).point point) [
      | inl e ↦ (set.set.0, set.set.1, ap (λ (t : Timing). t.point) set.set.2 ∙ sym e ∙ h.last_timing)
      | inr ne ↦ (let is = set.kept k last_in ne in (is.0, is.1, ap (λ (t : Timing). t.point) is.2 ∙ h.last_timing))
    ] in
    let last : ℕ = length ts - 1 in
    let last_there : last < length ts = omega (arith, ended.1) in
    let up = points_rise ts set.rise ended.0 last no_timing (omega (arith, ended.1)) last_there in
    record {
      some = h.some;
      few = h.few;
      top = h.top;
      start = h.start;
      traction_top = h.traction_top;
      brake_top = h.brake_top;
      traction = h.traction;
      brake = h.brake;
      short_train = h.short_train;
      numbers = h.numbers;
      small_drag = h.small_drag;
      limits = h.limits;
      low_limits = h.low_limits;
      places = h.places;
      far = h.far;
      metres = h.metres;
      stops = h.stops;
      last_stop = h.last_stop;
      dwells = h.dwells;
      first_dwell = h.first_dwell;
      short_dwells = h.short_dwells;
      some_timings = omega (arith, ended.1);
      few_timings = few;
      rising = set.rise;
      timings = All-from_get_or (λ x. (1 ≤ x.point) × (x.point ≤ n) × (unsigned_abs x.latest ≤ 172800000)) ts no_timing each;
      last_timing = omega (arith, up, ended.2, (each last last_there).1);
      moving = h.moving;
    }

-- also where a refusal leaves the timing points as they were
pub latest_shaped_by : {A E : Type 0} (result : Result A E) (r : Rules) (point : ℕ) (latest : ℤ) (ts : List Timing) → IsShaped r → 1 ≤ point → point ≤ length r.steps → unsigned_abs latest ≤ 172800000 →
    length (with_latest r.timings point latest) ≤ 64 → OnOk result (ts ≡ with_latest r.timings point latest) → OnOk result (IsLatestSet r.timings point latest ts) → OnErr result (ts ≡ r.timings) →
    IsShaped (record r { timings = ts })
latest_shaped_by (Ok x) r point latest ts h after there small room is set same =
    latest_shaped r point latest ts h after there small set (let count = ap (λ (xs : List Timing). length xs) is in omega (arith, room, count))
latest_shaped_by (Err e) r point latest ts h after there small room is set same = subst (λ (xs : List Timing). IsShaped (record r { timings = xs })) (sym same) h
