-- The rules of a run stay so when their limits are set.
use Rattle.std.proofs.Common.{ℕ, ◌≡◌, ◌<◌, ◌≤◌, ◌+◌, List, length, get_or, arith, inl, inr}
use Rattle.std.proofs.lemmas.Int.{ints}
use Rattle.std.proofs.lemmas.Bool.{cases_lt}
use Rattle.std.proofs.lemmas.List.{get_or_past}
use Rattle.rail_specs.specs.Rules.{Rules}
use Rattle.line_file.specs.declared.line.Line.{Line}
use Rattle.line_file.specs.Shape.{IsLine}
use Rattle.joined_rules.specs.declared.setup.Stretch.{Stretch}
use Rattle.joined_rules.specs.Joined.{IsLeastLimit}
use Rattle.joined_rules.specs.JoinedParts.{AreLimits, LieAlong, Rising}
use Rattle.rule_parts.specs.Shaped.{IsShaped}
use Rattle.rule_changes.specs.Limits.{AreStretches, HasLeastLimits, IsOnLine}

-- the places of a run rise
pub places_rise : (r : Rules) → IsShaped r → Rising r.places
places_rise r h k l =
    let there : k < length r.steps = (let count = h.places in omega (arith, count, l)) in
    let next = h.metres k there in
    let long = (h.numbers k there).metres.0 in
    omega (arith, next, long)

-- they lie along the line's limits
pub along : (line : Line) (r : Rules) → IsLine line → IsShaped r → IsOnLine line r → LieAlong line.limits r.places
along line r is h on =
    let rise = places_rise r h in
    let count = h.places in
    record {
      some = is.some.0;
      rising = rise;
      begun = (on 0 (omega (arith, count))).0;
      ended = λ i l. (let next = rise i l in let last = (on (i + 1) l).1 in omega (arith, next, last));
    }

-- a limit is at most 12,000
low_limit : (line : Line) (stretches : List Stretch) (metres s e v : ℕ) → IsLine line → AreStretches stretches → IsLeastLimit line.limits stretches metres s e v → v ≤ 12000
low_limit line stretches metres s e v h u is = elim is.reached [
  | inl (k, l, m, at) ↦ omega (arith, ints, at, (h.limits.each k l).value.1)
  | inr (k, l, m, at) ↦ omega (arith, at, (u k l).limit.1)
]

pub least_limits : (line : Line) (stretches : List Stretch) (r : Rules) (limits : List ℕ) → IsShaped r → AreLimits line.limits stretches r.train_length r.places limits → HasLeastLimits line stretches (record r { limits = limits })
least_limits line stretches r limits h is =
    let count : length limits ≡ length r.steps = (let more = is.count in let points = h.places in omega (arith, more, points)) in
    record { count = count; each = λ i l. is.each i (omega (arith, l, count)) }

pub limits_shaped : (line : Line) (stretches : List Stretch) (r : Rules) (limits : List ℕ) → IsLine line → AreStretches stretches → IsShaped r →
    AreLimits line.limits stretches r.train_length r.places limits → IsShaped (record r { limits = limits })
limits_shaped line stretches r limits is u h least =
    let all = least_limits line stretches r limits h least in
    record {
      some = h.some;
      few = h.few;
      top = h.top;
      start = h.start;
      traction_top = h.traction_top;
      brake_top = h.brake_top;
      traction = h.traction;
      brake = h.brake;
      short_train = h.short_train;
      numbers = h.numbers;
      small_drag = h.small_drag;
      limits = all.count;
      low_limits = λ i. elim (cases_lt i (length r.steps)) [
        | inl b ↦ low_limit line stretches r.train_length (get_or r.places i 0) (get_or r.places (i + 1) 0) (get_or limits i 0) is u (all.each i b)
        | inr past ↦ (let over : length limits ≤ i = (let count = all.count in omega (arith, past, count)) in omega (arith, get_or_past limits i 0 over))
      ];
      places = h.places;
      far = h.far;
      metres = h.metres;
      stops = h.stops;
      last_stop = h.last_stop;
      dwells = h.dwells;
      first_dwell = h.first_dwell;
      short_dwells = h.short_dwells;
      some_timings = h.some_timings;
      few_timings = h.few_timings;
      rising = h.rising;
      timings = h.timings;
      last_timing = h.last_timing;
      moving = h.moving;
    }
