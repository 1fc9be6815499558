-- Prices for a run's timing points.
use Rattle.std.proofs.Common.{ℕ, ◌+◌, ◌<◌, ◌≤◌, ◌≡◌, ◌^◌, ap, arith, ◌∙◌}
use Rattle.std.specs.Prelude.{List, length, map, slice_index}
use Rattle.std.proofs.lemmas.List.{get_or-map, length-map}
use Rattle.rail_specs.specs.declared.Timing.{Timing}
use Rattle.rail_specs.specs.Rules.{Rules, timing_at, no_timing}
use Rattle.bound_specs.specs.Prices.{ArePrices}
use Rattle.rule_parts.specs.Shaped.{IsShaped}

-- the point of timing point j
at_timing : (r : Rules) (j : ℕ) → j < length r.timings → slice_index (map (λ t. t.point) r.timings) j ≡ (timing_at r j).point
at_timing r j l = get_or-map (λ (t : Timing). t.point) r.timings j no_timing 0 l

-- values for the timing points of a run are prices
pub timing_prices : (r : Rules) (points values : List ℕ) → IsShaped r → points ≡ map (λ t. t.point) r.timings → length values ≡ length r.timings →
    ((j : ℕ) → slice_index values j ≤ 2 ^ 50) → ArePrices (record { points = points; values = values })
timing_prices r points values s is count low =
    let long : length points ≡ length r.timings = ap length is ∙ length-map r.timings (λ (t : Timing). t.point) in
    let at : (j : ℕ) → j < length r.timings → slice_index points j ≡ (timing_at r j).point = λ j l. ap (λ (ps : List ℕ). slice_index ps j) is ∙ at_timing r j l in
    record {
      equal = omega (arith, count, long);
      some = omega (arith, s.some_timings, long);
      few = omega (arith, s.few_timings, long);
      start = omega (arith, at 0 s.some_timings, (s.timings 0 no_timing s.some_timings).0);
      rising = λ j l. omega (arith, s.rising j (omega (arith, l, long)), at j (omega (arith, l, long)), at (j + 1) (omega (arith, l, long)));
      low = low;
    }
