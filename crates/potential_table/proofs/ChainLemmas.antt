-- Chain values of finer cells.
use Rattle.std.proofs.Common.{ℕ, ◌≡◌, ◌<◌, ◌≤◌, ◌+◌, ◌-◌, Option, Some, None, List, length, drop, subst, sym, arith, length-drop}
use Rattle.std.specs.Prelude.{ℤ, ◌-ℤ◌, IfSome, option_map}
use Rattle.std.proofs.lemmas.Int.{ints}
use Rattle.std.proofs.lemmas.List.{get_or-drop}
use Rattle.bound_specs.specs.declared.Cell.{Cell}
use Rattle.bound_specs.specs.Cells.{cells_of, cell_at, no_cell, IsCell, IsInside}
use Rattle.bound_specs.specs.Chains.{IsAtMost, IsLeastChain, cost_along, RunThrough}
use Rattle.bound_specs.specs.ChainValues.{IsChainValue, AreFiner}
use Rattle.bound_specs.specs.Links.{Pricing, priced_cost, low_cost}
use Rattle.bound_specs.specs.Prices.{priced_slack}
use Rattle.chain_duality.proofs.Finer.{finer_chains}
use Rattle.link_costs.specs.PricedLaws.{priced_costs}
use Rattle.link_costs.specs.Soundness.{IsPricing}

-- numbers less the same
pub less_same : (v w : Option ℤ) (s : ℤ) → IsAtMost v w → IsAtMost (option_map (λ q. q -ℤ s) v) (option_map (λ q. q -ℤ s) w)
less_same v None s h = tt
less_same None (Some w) s h = absurd h
less_same (Some v) (Some w) s h = omega (arith, ints, h)

-- under equal prices finer cells have no smaller chain value
pub finer_value : (p : Pricing) → IsPricing p → (coarse fine : List (List Cell)) (v w : Option ℤ) → AreFiner p.rules coarse fine
    → IsChainValue p coarse v → IsChainValue p fine w → IsAtMost v w
finer_value p sound coarse fine v w finer is_v is_w =
    let least = finer_chains (length p.rules.steps) (priced_cost p) (low_cost p) (priced_costs p sound) coarse fine finer.points_coarse finer.points
    finer.start_coarse finer.start_fine finer.cells_coarse finer.cells_fine finer.inside is_v.0 is_w.0 is_v.1 is_w.1 in
    subst (IsAtMost v) (sym is_w.2) (subst (λ (q : Option ℤ). IsAtMost q (option_map (λ x. x -ℤ priced_slack p.rules p.prices) is_w.0)) (sym is_v.2)
    (less_same is_v.0 is_w.0 (priced_slack p.rules p.prices) least))
