-- What a certificate shows where it holds.
use Rattle.std.proofs.Common.{◌≡◌, ◌<◌, ◌+◌, ◌∙◌, ℕ, ℤ, Result, Ok, Err, length, refl, sym, subst, arith, inl, inr}
use Rattle.std.specs.Prelude.{◌+ℤ◌, ◌-ℤ◌, slice_index, IfOk}
use Rattle.std.proofs.lemmas.Int.{ints}
use Rattle.std.proofs.lemmas.Bool.{cases_lt}
use Rattle.std.proofs.lemmas.List.{get_or-map, get_or_past, length-map}
use Rattle.bound_specs.specs.Cells.{cells_of, AreAdjacent, RunFrom, FitBetween}
use Rattle.bound_specs.specs.Prices.{ArePrices, priced_slack}
use Rattle.rail_specs.specs.Rules.{Rules, timing_at, no_timing}
use Rattle.rail_specs.specs.declared.Timing.{Timing}
use Rattle.rail_specs.specs.Cost.{Grows, StaysWithin, IsBound}
use Rattle.rule_parts.specs.Shaped.{IsShaped}
use Rattle.speed_cells.proofs.Covering.{fitting_cover}
use Rattle.time_multipliers.proofs.PriceLemmas.{steps_sum_by_parts}
use Rattle.link_costs.specs.Soundness.{IsPricing}
use Rattle.link_costs.proofs.BoundLemmas.{feasible_bounds}
use Rattle.dual_certificate.specs.declared.certificate.Certificate.{Certificate}
use Rattle.dual_certificate.specs.Text.{IsPoint, IsCertificate}
use Rattle.dual_certificate.specs.Contents.{no_point, point_at, first_of, cell_lists, value_lists, point_cells}
use Rattle.certificate_checker.specs.Contents.{prices_in, pricing_in}
use Rattle.certificate_checker.specs.declared.refused.Refused.{Refused}
use Rattle.certificate_checker.specs.Holds.{Holds, Shows}
use Rattle.certificate_checker.proofs.HoldLemmas.{cells_at, run_of, one_cell, cell_count_at}

-- the prices of a certificate are prices for the timing points
prices_are : (r : Rules) (c : Certificate) → IsShaped r → IsCertificate c → length c.prices ≡ length r.timings → ArePrices (prices_in r c)
prices_are r c s ic count =
    let long : length (prices_in r c).points ≡ length r.timings = length-map r.timings (λ (t : Timing). t.point) in
    let is : (j : ℕ) → j < length r.timings → slice_index (prices_in r c).points j ≡ (timing_at r j).point = λ j l. get_or-map (λ (t : Timing). t.point) r.timings j no_timing 0 l in
    record {
      equal = count ∙ sym long;
      some = omega (arith, long, s.some_timings);
      few = omega (arith, long, s.few_timings);
      start = (let first = s.timings 0 no_timing (omega (arith, s.some_timings)) in omega (arith, is 0 (omega (arith, s.some_timings)), first.0));
      rising = λ j l. (let inner : j + 1 < length r.timings = omega (arith, l, long) in omega (arith, is j (omega (arith, inner)), is (j + 1) inner, s.rising j inner));
      low = λ j. elim (cases_lt j (length c.prices)) [
        | inl inner ↦ ic.price j 0 inner
        | inr out ↦ rw (get_or_past c.prices j 0 out) (omega arith)
      ];
    }

-- a certificate that holds shows its energy and its bound
pub holds_shows : (cost : ℤ → ℤ) (r : Rules) (c : Certificate) → Grows cost → StaysWithin cost → IsShaped r → IsCertificate c → Holds cost r c → Shows cost r c
holds_shows cost r c grows within s ic h =
    let fit : FitBetween r (cell_lists c) h.cells.0 h.cells.1 = h.cells.2 in
    let lists : length (cell_lists c) ≡ length c.points = length-map c.points point_cells in
    let adjacent : (k : ℕ) → k < length (cell_lists c) → AreAdjacent (cells_of (cell_lists c) k) = λ k l. (fit.run k (omega (arith, l, fit.points))).adjacent in
    let start = fit.run 0 (omega arith) in
    let first : IsPoint (point_at c.points 0) = ic.point 0 no_point (omega (arith, h.points)) in
    let own = run_of (point_at c.points 0) first in
    let here : RunFrom (slice_index h.cells.0 0) (slice_index h.cells.1 0) (point_cells (point_at c.points 0)) =
    subst (RunFrom (slice_index h.cells.0 0) (slice_index h.cells.1 0)) (cells_at c 0 (omega (arith, h.points))) start in
    let same : first_of (point_at c.points 0) 0 ≡ (point_at c.points 0).greatest =
    omega (arith, own.first, own.last, here.first, here.last, fit.ranges.least.drive.drive.start, fit.ranges.greatest.drive.drive.start) in
    let one : length (cells_of (cell_lists c) 0) ≡ 1 = cell_count_at c 0 (omega (arith, h.points)) ∙ one_cell (point_at c.points 0) first same in
    let slack : ℤ = priced_slack r (prices_in r c) in
    let pricing : IsPricing (pricing_in cost r c) = record { grows = grows; within = within; shaped = s; prices = prices_are r c s ic h.prices; timings = refl } in
    let bounds = feasible_bounds (pricing_in cost r c) (cell_lists c) (value_lists c) (c.bound +ℤ slack) pricing (steps_sum_by_parts (prices_in r c)) (fitting_cover r (cell_lists c) s.top h.cells) fit.points
    adjacent one h.values h.bound in
    record {
      drive = h.drive;
      on_time = h.on_time;
      energy = h.energy;
      bound = subst (IsBound cost r) (let e : (c.bound +ℤ slack) -ℤ slack ≡ c.bound = omega (arith, ints) in e) bounds;
    }

pub ok_shows : (cost : ℤ → ℤ) (r : Rules) (c : Certificate) → Grows cost → StaysWithin cost → IsShaped r → IsCertificate c → (result : Result (Unit {0}) Refused) → IfOk result (λ _. Holds cost r c)
    → IfOk result (λ _. Shows cost r c)
ok_shows cost r c grows within s ic (Ok x) h = holds_shows cost r c grows within s ic h
ok_shows cost r c grows within s ic (Err e) h = tt
