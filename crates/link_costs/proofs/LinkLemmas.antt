-- What a link that is possible costs.
use Rattle.std.proofs.Common.{ℕ, ◌≡◌, ◌+◌, ◌*◌, ◌<◌, ◌≤◌, ◌^◌, Bool, true, false, ap, arith, to_z, of_z, ◌∙◌}
use Rattle.std.specs.Prelude.{ℤ, pos, neg_ℤ, ◌+ℤ◌, ◌≤ℤ◌, Some, None, IsTrue, if◌then◌else◌, slice_index}
use Rattle.std.specs.Int.{w64, w128}
use Rattle.std.specs.Int.RustNames.{unsigned_abs}
use Rattle.std.proofs.lemmas.Int.{ints}
use Rattle.bound_specs.specs.declared.Cell.{Cell}
use Rattle.rail_specs.specs.Step.{work, lower_time}
use Rattle.rail_specs.specs.declared.StepNumbers.{StepNumbers}
use Rattle.rail_specs.specs.Rules.{Rules, step_at}
use Rattle.bound_specs.specs.Links.{Pricing, can_drive, can_link, priced_time, priced_cost, low_cost}
use Rattle.bound_specs.specs.Cells.{single}
use Rattle.bound_specs.specs.Prices.{step_price}
use Rattle.link_costs.specs.PricedLaws.{link_whole}

pub some_if : (x : Bool) (p q : ℤ) → IsTrue x → p ≡ q → Some p ≡ (if x then Some q else None)
some_if true p q h e = ap Some e
some_if false p q h e = cc

-- work fits its 64 bits
pub short_is : (w : ℤ) → unsigned_abs w < 2 ^ 62 → to_z w64 (of_z w64 w) ≡ w
short_is w h = omega (arith, ints)

-- a number of 128 bits that is small is itself
pub wide_is : (p : ℤ) → unsigned_abs p ≤ 2 ^ 86 → to_z w128 (of_z w128 p) ≡ p
wide_is p h = omega (arith, ints)

-- a link whose tests are passed is possible, where n is its step, and the work and the forces are as they are computed
pub link_found : (r : Rules) (i : ℕ) (a b : Cell) (n : StepNumbers) (traction brake : ℕ) (least greatest : ℤ) →
    n ≡ step_at r i → traction ≡ slice_index r.traction b.first → brake ≡ slice_index r.brake a.first →
    least ≡ work n a.last b.first → greatest ≡ work n a.first b.last →
    (a.first ≤ slice_index r.limits i) × (b.first ≤ slice_index r.limits i) → (a.first ≤ r.top) × (b.first ≤ r.top) → 1 ≤ a.last + b.last →
    least ≤ℤ pos (2000000 * n.metres * traction) → neg_ℤ (pos (2000000 * n.metres * brake)) ≤ℤ greatest → can_link r i a b ≡ true
link_found r i a b n traction brake least greatest is traction_is brake_is least_is greatest_is limit top moving pulled held =
    link_whole r i a b record {
      limit = limit;
      top = top;
      moving = moving;
      traction = rw (least_is, is, traction_is) at pulled;
      brake = rw (greatest_is, is, brake_is) at held;
    }

-- the low cost of a link that is possible, as it is computed
pub low_is : (p : Pricing) (i : ℕ) (a b : Cell) (w result : ℤ) (price metres : ℕ) → IsTrue (can_link p.rules i a b) → w ≡ work (step_at p.rules i) a.last b.first →
    price ≡ step_price p.prices i → metres ≡ (step_at p.rules i).metres → result ≡ p.cost w +ℤ pos (price * lower_time metres a.last b.last) →
    unsigned_abs result ≤ 2 ^ 86 → Some (to_z w128 (of_z w128 result)) ≡ low_cost p i a b
low_is p i a b w result price metres h e at long r small =
    some_if (can_link p.rules i a b) (to_z w128 (of_z w128 result)) (p.cost (work (step_at p.rules i) a.last b.first) +ℤ pos (priced_time p i a.last b.last)) h
    (wide_is result small ∙ r ∙ ap (λ (v : ℤ). p.cost v +ℤ pos (price * lower_time metres a.last b.last)) e
    ∙ ap (λ (q : ℕ). p.cost (work (step_at p.rules i) a.last b.first) +ℤ pos (q * lower_time metres a.last b.last)) at
    ∙ ap (λ (m : ℕ). p.cost (work (step_at p.rules i) a.last b.first) +ℤ pos (step_price p.prices i * lower_time m a.last b.last)) long)

-- the cost of a step that can be driven, as it is computed
pub real_is : (p : Pricing) (i v0 v1 : ℕ) (w result : ℤ) (price metres : ℕ) → IsTrue (can_drive p.rules i v0 v1) → w ≡ work (step_at p.rules i) v0 v1 →
    price ≡ step_price p.prices i → metres ≡ (step_at p.rules i).metres → result ≡ p.cost w +ℤ pos (price * lower_time metres v0 v1) →
    unsigned_abs result ≤ 2 ^ 86 → Some (to_z w128 (of_z w128 result)) ≡ priced_cost p i v0 v1
real_is p i v0 v1 w result price metres h e at long r small = low_is p i (single v0) (single v1) w result price metres h e at long r small
