-- The costs of a run's steps with their times priced keep the laws of costs of links.
use Rattle.std.proofs.Common.{ℕ, zero, suc, ◌+◌, ◌*◌, ◌/◌, ◌<◌, ◌≤◌, ◌≡◌, ◌^◌, Bool, true, false, ◌&&◌, refl, arith}
use Rattle.std.specs.Prelude.{ℤ, pos, neg_ℤ, ◌+ℤ◌, ◌≤ℤ◌, length, slice_index, nat_le, if◌then◌else◌, Some, None}
use Rattle.std.specs.Int.RustNames.{unsigned_abs, int_le}
use Rattle.std.proofs.lemmas.Int.{ints}
use Rattle.std.proofs.lemmas.Nat.{mul-le, le-div}
use Rattle.std.proofs.lemmas.Bool.{and_parts, leb-true}
use Rattle.std.proofs.lemmas.Bool.Decides.{nat_tests}
use Rattle.std.proofs.Math.Nat.{mul-le-mul_left, div-mul-le_self, div-le_self}
use Rattle.bound_specs.specs.declared.Cell.{Cell}
use Rattle.rail_specs.specs.declared.StepNumbers.{StepNumbers}
use Rattle.rail_specs.specs.Step.{work, lower_time, HasSmallDrag, IsInRange}
use Rattle.rail_specs.specs.Rules.{Rules, step_at, IsStepKept, traction_work, brake_work}
use Rattle.rail_specs.specs.Times.{sum_below}
use Rattle.bound_specs.specs.Cells.{IsInside, single}
use Rattle.bound_specs.specs.Chains.{IsAtMost, IsSmall, AreCellCosts}
use Rattle.bound_specs.specs.Prices.{Prices, ArePrices, charge, step_price}
use Rattle.bound_specs.specs.Links.{Pricing, can_drive, can_link, priced_time, priced_cost, low_cost}
use Rattle.rail_specs.proofs.WorkLemmas.{work_rises, work_falls, work_parts}
use Rattle.step_energy.proofs.Bounds.{work_up_bound, fall_bound}
use Rattle.rule_parts.specs.Shaped.{IsShaped}
use Rattle.link_costs.specs.Soundness.{IsPricing}

-- a link that is possible, part by part
pub record IsLink (r : Rules) (i : ℕ) (a b : Cell) : Type 0 where
  pub limit : (a.first ≤ slice_index r.limits i) × (b.first ≤ slice_index r.limits i)
  pub top : (a.first ≤ r.top) × (b.first ≤ r.top)
  pub moving : 1 ≤ a.last + b.last
  pub traction : work (step_at r i) a.last b.first ≤ℤ pos (traction_work r i b.first)
  pub brake : neg_ℤ (pos (brake_work r i a.first)) ≤ℤ work (step_at r i) a.first b.last

-- the tests of a link, one by one
seven : (a b c d e f g : Bool) → ((a && b) && (c && d) && e && f && g) ≡ true →
    ((a ≡ true) × (b ≡ true)) × ((c ≡ true) × (d ≡ true)) × (e ≡ true) × (f ≡ true) × (g ≡ true)
seven a b c d e f g h =
    let p = and_parts ((a && b) && (c && d) && e && f) g h in
    let q = and_parts ((a && b) && (c && d) && e) f p.0 in
    let r = and_parts ((a && b) && (c && d)) e q.0 in
    let t = and_parts (a && b) (c && d) r.0 in
    (and_parts a b t.0, and_parts c d t.1, r.1, q.1, p.1)

le_tells : (x y : ℤ) → int_le x y ≡ true → x ≤ℤ y
le_tells x y h = grind (arith, ints)

link_parts : (r : Rules) (i : ℕ) (a b : Cell) → can_link r i a b ≡ true → IsLink r i a b
link_parts r i a b h =
    let t = seven (nat_le a.first (slice_index r.limits i)) (nat_le b.first (slice_index r.limits i)) (nat_le a.first r.top) (nat_le b.first r.top)
    (nat_le 1 (a.last + b.last)) (int_le (work (step_at r i) a.last b.first) (pos (traction_work r i b.first)))
    (int_le (neg_ℤ (pos (brake_work r i a.first))) (work (step_at r i) a.first b.last)) h in
    record {
      limit = (leb-true a.first (slice_index r.limits i) t.0.0, leb-true b.first (slice_index r.limits i) t.0.1);
      top = (leb-true a.first r.top t.1.0, leb-true b.first r.top t.1.1);
      moving = leb-true 1 (a.last + b.last) t.2;
      traction = le_tells (work (step_at r i) a.last b.first) (pos (traction_work r i b.first)) t.3;
      brake = le_tells (neg_ℤ (pos (brake_work r i a.first))) (work (step_at r i) a.first b.last) t.4;
    }

pub link_whole : (r : Rules) (i : ℕ) (a b : Cell) → IsLink r i a b → can_link r i a b ≡ true
link_whole r i a b l = grind (arith, nat_tests, ints)

-- a step can be driven exactly where it moves and is kept
pub can_drive-kept : (r : Rules) (i v0 v1 : ℕ) → can_drive r i v0 v1 ≡ true → (1 ≤ v0 + v1) × IsStepKept r i v0 v1
can_drive-kept r i v0 v1 h =
    let l = link_parts r i (single v0) (single v1) h in
    (l.moving, record { limit = l.limit; top = l.top; traction = l.traction; brake = l.brake })

pub kept-can_drive : (r : Rules) (i v0 v1 : ℕ) → 1 ≤ v0 + v1 → IsStepKept r i v0 v1 → can_drive r i v0 v1 ≡ true
kept-can_drive r i v0 v1 m k = grind (arith, nat_tests, ints)

-- more speed takes no more time
lower_time-falls : (m s t : ℕ) → 1 ≤ s → s ≤ t → (200000 * m) / t ≤ (200000 * m) / s
lower_time-falls m s t some h =
    let q : ℕ = (200000 * m) / t in
    le-div q (200000 * m) s some (omega (arith, mul-le-mul_left q h, div-mul-le_self (200000 * m) t))

-- a link between larger cells is possible where one inside is
link_outside : (r : Rules) (i : ℕ) (a b c d : Cell) → IsShaped r → i < length r.steps → IsInside c a → IsInside d b → IsLink r i c d → IsLink r i a b
link_outside r i a b c d s l h g k = record {
  limit = (omega (arith, h.0, k.limit.0), omega (arith, g.0, k.limit.1));
  top = (omega (arith, h.0, k.top.0), omega (arith, g.0, k.top.1));
  moving = omega (arith, k.moving, h.1, g.1);
  traction =
      let fall = work_falls (step_at r i) c.last a.last d.first (s.small_drag i l) h.1 in
      let rise = work_rises (step_at r i) a.last b.first d.first g.0 in
      let force = mul-le-mul_left (2000000 * (step_at r i).metres) (s.traction.never_rises b.first d.first g.0) in
      omega (arith, ints, fall, rise, force, k.traction);
  brake =
      let fall = work_falls (step_at r i) a.first c.first d.last (s.small_drag i l) h.0 in
      let rise = work_rises (step_at r i) a.first d.last b.last g.1 in
      let force = mul-le-mul_left (2000000 * (step_at r i).metres) (s.brake.never_rises a.first c.first h.0) in
      omega (arith, ints, fall, rise, force, k.brake);
}

-- one number at most another, where the second is there only if the first is
at_most_if : (x y : Bool) (p q : ℤ) → (y ≡ true → (x ≡ true) × (p ≤ℤ q)) → IsAtMost (if x then Some p else None) (if y then Some q else None)
at_most_if true true p q h = (h refl).1
at_most_if true false p q h = search
at_most_if false true p q h = let e : false ≡ true = (h refl).0 in cc
at_most_if false false p q h = search

small_if : (x : Bool) (p : ℤ) → unsigned_abs p ≤ 2 ^ 86 → IsSmall (if x then Some p else None)
small_if true p h = h
small_if false p h = search

-- the priced time falls where speeds rise
priced_time-falls : (p : Pricing) (i v0 v1 w0 w1 : ℕ) → 1 ≤ v0 + v1 → v0 ≤ w0 → v1 ≤ w1 → priced_time p i w0 w1 ≤ priced_time p i v0 v1
priced_time-falls p i v0 v1 w0 w1 some h g =
    mul-le-mul_left (step_price p.prices i) (lower_time-falls (step_at p.rules i).metres (v0 + v1) (w0 + w1) some (omega (arith, h, g)))

-- a link between larger cells costs at most what one inside costs
pub nested_low : (p : Pricing) (i : ℕ) (a b c d : Cell) → IsPricing p → i < length p.rules.steps → IsInside c a → IsInside d b → IsAtMost (low_cost p i a b) (low_cost p i c d)
nested_low p i a b c d s l h g =
    at_most_if (can_link p.rules i a b) (can_link p.rules i c d)
    (p.cost (work (step_at p.rules i) a.last b.first) +ℤ pos (priced_time p i a.last b.last))
    (p.cost (work (step_at p.rules i) c.last d.first) +ℤ pos (priced_time p i c.last d.last))
    (λ e.
    let k = link_parts p.rules i c d e in
    let fall = work_falls (step_at p.rules i) c.last a.last d.first (s.shaped.small_drag i l) h.1 in
    let rise = work_rises (step_at p.rules i) a.last b.first d.first g.0 in
    let less = s.grows (work (step_at p.rules i) a.last b.first) (work (step_at p.rules i) c.last d.first) (omega (arith, ints, fall, rise)) in
    let sooner = priced_time-falls p i c.last d.last a.last b.last k.moving h.1 g.1 in
    (link_whole p.rules i a b (link_outside p.rules i a b c d s.shaped l h g k), omega (arith, ints, less, sooner)))

-- each of so many terms is at most this, so the sum is at most that
sum_bound : (f : ℕ → ℕ) (most n : ℕ) → ((j : ℕ) → f j ≤ most) → sum_below f n ≤ n * most
sum_bound f most zero h = omega arith
sum_bound f most (suc n) h = omega (arith, h n, sum_bound f most n h)

charge_bound : (p : Prices) (j i : ℕ) → ArePrices p → charge p j i ≤ 2 ^ 50
charge_bound p j i h = let low = h.low j in grind (arith, nat_tests)

step_price_bound : (p : Prices) (i : ℕ) → ArePrices p → step_price p i ≤ 2 ^ 56
step_price_bound p i h = omega (arith, sum_bound (λ j. charge p j i) (2 ^ 50) (length p.points) (λ j. charge_bound p j i h), h.few)

pub priced_time_bound : (p : Pricing) (i v0 v1 : ℕ) → IsPricing p → i < length p.rules.steps → priced_time p i v0 v1 ≤ 2 ^ 84
priced_time_bound p i v0 v1 s l =
    let time : lower_time (step_at p.rules i).metres v0 v1 ≤ 200000000 =
    omega (arith, div-le_self (200000 * (step_at p.rules i).metres) (v0 + v1), (s.shaped.numbers i l).metres.1) in
    let product = mul-le (step_price p.prices i) (lower_time (step_at p.rules i).metres v0 v1) (2 ^ 56) 200000000 (step_price_bound p.prices i s.prices) time in
    omega (arith, product)

work_bound : (n : StepNumbers) (v0 v1 : ℕ) → IsInRange n → HasSmallDrag n → v0 ≤ 12000 → v1 ≤ 12000 → unsigned_abs (work n v0 v1) ≤ 2 ^ 62
work_bound n v0 v1 r d h g =
    omega (arith, ints, work_parts n v0 v1 d, work_up_bound n v1 r d (omega (arith, g)), fall_bound n v0 r (omega (arith, h)))

pub charged_bound : (p : Pricing) (i v0 v1 w0 w1 : ℕ) → IsPricing p → i < length p.rules.steps → v0 ≤ 12000 → v1 ≤ 12000 →
    unsigned_abs (p.cost (work (step_at p.rules i) v0 v1) +ℤ pos (priced_time p i w0 w1)) ≤ 2 ^ 86
charged_bound p i v0 v1 w0 w1 s l h g =
    let work_small = work_bound (step_at p.rules i) v0 v1 (s.shaped.numbers i l) (s.shaped.small_drag i l) h g in
    omega (arith, ints, work_small, s.within (work (step_at p.rules i) v0 v1), priced_time_bound p i w0 w1 s l)

-- the laws of costs of links
pub priced_costs : (p : Pricing) → IsPricing p → AreCellCosts (length p.rules.steps) (priced_cost p) (low_cost p)
priced_costs p s = record {
  below = λ i a b v w l ca cb hv hw. nested_low p i a b (single v) (single w) s l hv hw;
  single = λ i v w l h g. refl;
  nested = λ i a b c d l ca cb cc cd h g. nested_low p i a b c d s l h g;
  small_real = λ i v w l h g. small_if (can_drive p.rules i v w) (p.cost (work (step_at p.rules i) v w) +ℤ pos (priced_time p i v w)) (charged_bound p i v w v w s l h g);
  small_low = λ i a b l ca cb. small_if (can_link p.rules i a b) (p.cost (work (step_at p.rules i) a.last b.first) +ℤ pos (priced_time p i a.last b.last))
      (charged_bound p i a.last b.first a.last b.last s l ca.1 (omega (arith, cb.0, cb.1)));
}
