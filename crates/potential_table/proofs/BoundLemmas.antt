-- Why potentials less the priced slack are a bound.
use Rattle.std.proofs.Common.{ℕ, ◌+◌, ◌<◌, ◌≤◌, ◌≡◌, sym, arith, ◌^◌, to_z, of_z}
use Rattle.std.specs.Int.{w128}
use Rattle.std.specs.Int.RustNames.{unsigned_abs}
use Rattle.std.specs.Prelude.{ℤ, ◌-ℤ◌, List, length, Option, Some}
use Rattle.std.proofs.lemmas.Int.{ints}
use Rattle.rail_specs.specs.Rules.{Rules}
use Rattle.bound_specs.specs.Cells.{cells_of}
use Rattle.bound_specs.specs.Chains.{values_of, value_at}
use Rattle.bound_specs.specs.Prices.{Prices, ArePrices, AreFor, priced_slack}
use Rattle.bound_specs.specs.Links.{Pricing, priced_cost, low_cost}
use Rattle.time_multipliers.specs.Steps.{StepsSumByParts}
use Rattle.rule_parts.specs.Shaped.{IsShaped}
use Rattle.chain_duality.proofs.Duality.{potentials_dual}
use Rattle.link_costs.specs.PricedLaws.{priced_costs}
use Rattle.link_costs.proofs.BoundLemmas.{value_bounds}
use Rattle.potential_table.specs.Bounds.{GivesBound}

-- so potentials and prices give a bound, whatever the cost and the cells
pub gives_bound : (r : Rules) (p : Prices) (values : List (List (Option ℤ))) (value : ℤ) → IsShaped r → ArePrices p → AreFor r p → StepsSumByParts p →
    length values ≡ length r.steps + 1 → length (values_of values 0) ≡ 1 → value_at values 0 0 ≡ Some value → GivesBound r p values (value -ℤ priced_slack r p)
gives_bound r p values value s prices a parts points one is cost cells grows within cover adjacent least =
    let pricing : Pricing = record { cost = cost; rules = r; prices = p } in
    let laws = priced_costs pricing (record { grows = grows; within = within; shaped = s; prices = prices; timings = a }) in
    let count : length cells ≡ length r.steps + 1 = omega (arith, least.points, points) in
    let first : length (cells_of cells 0) ≡ 1 = omega (arith, least.counts 0 (omega (arith, count)), one) in
    let dual = potentials_dual (length r.steps) (priced_cost pricing) (low_cost pricing) laws cells count (λ k c l m. (adjacent k l).cells c m) values least in
    value_bounds pricing cells values value s a parts cover first dual is

-- a potential less a charge, as it is computed in 128 bits
pub wide_difference : (value charge result slack : ℤ) → unsigned_abs value ≤ 2 ^ 98 → unsigned_abs charge ≤ 2 ^ 92 →
    result ≡ to_z w128 (of_z w128 value) -ℤ to_z w128 (of_z w128 charge) → charge ≡ slack → to_z w128 (of_z w128 result) ≡ value -ℤ slack
wide_difference value charge result slack h g e s =
    let v : to_z w128 (of_z w128 value) ≡ value = omega (arith, ints) in
    let c : to_z w128 (of_z w128 charge) ≡ charge = omega (arith, ints) in
    let r : result ≡ value -ℤ charge = rw (sym v) (rw (sym c) e) in
    omega (arith, ints, r, s)
