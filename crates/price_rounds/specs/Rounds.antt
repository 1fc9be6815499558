-- Which prices a search over all timing points ends with.
use Rattle.std.specs.Prelude.{ℕ, ◌-◌, ◌^◌, ◌≤◌, ◌≡◌, ◌≢◌, ℤ, List, Option, IfSome, length, map, replicate, slice_index}
use Rattle.std.specs.Int.RustNames.{unsigned_abs}
use Rattle.rail_specs.specs.Rules.{Rules}
use Rattle.bound_specs.specs.declared.Cell.{Cell}
use Rattle.bound_specs.specs.Chains.{IsAtMost, ArePotentials}
use Rattle.bound_specs.specs.ChainValues.{IsChainValue, with_price}
use Rattle.bound_specs.specs.Prices.{Prices, ArePrices, AreFor}
use Rattle.bound_specs.specs.Links.{Pricing, low_cost}
use Rattle.potential_table.specs.declared.price_search.Valued.{Valued}

-- the costs of a run's steps at these prices
abbrev pub pricing : (ℤ → ℤ) → Rules → Prices → Pricing
pricing cost r prices = record { cost = cost; rules = r; prices = prices }

-- prices for the rules, the potentials of cells under them, and their chain value
pub record IsValued (cost : ℤ → ℤ) (r : Rules) (cells : List (List Cell)) (found : Valued) : Type 0 where
  pub timings : AreFor r found.prices
  pub potentials : ArePotentials (low_cost (pricing cost r found.prices)) cells found.potentials
  pub value : IsChainValue (pricing cost r found.prices) cells found.value
  pub small : IfSome found.value (λ v. unsigned_abs v ≤ 2 ^ 99)

-- no chain value at these prices is greater
abbrev pub IsNoLess : (ℤ → ℤ) → Rules → List (List Cell) → Prices → Option ℤ → Type 0
IsNoLess cost r cells prices value = (v : Option ℤ) → IsChainValue (pricing cost r prices) cells v → IsAtMost v value

-- at most one timing point has a price other than 0
abbrev pub IsAlone : Prices → Type 0
IsAlone p = (j : ℕ) × ((i : ℕ) → i ≢ j → slice_index p.values i ≡ 0)

-- no price of the last timing point in the place of its own has a greater chain value
abbrev pub IsLastBest : (ℤ → ℤ) → Rules → List (List Cell) → Prices → Option ℤ → Type 0
IsLastBest cost r cells prices value =
    (q : ℕ) (v : Option ℤ) → q ≤ 2 ^ 50 → IsChainValue (with_price (pricing cost r prices) (length r.timings - 1) q) cells v → IsAtMost v value

-- no prices of which at most one isn't 0 have a greater chain value
abbrev pub BeatsAlone : (ℤ → ℤ) → Rules → List (List Cell) → Option ℤ → Type 0
BeatsAlone cost r cells value =
    (prices : Prices) → ArePrices prices → AreFor r prices → IsAlone prices → IsNoLess cost r cells prices value

-- price 0 for each timing point
abbrev pub no_prices : Rules → Prices
no_prices r = record { points = map (λ t. t.point) r.timings; values = replicate (length r.timings) 0 }

-- no price of timing point j alone has a greater chain value
abbrev pub BeatsPriceOf : (ℤ → ℤ) → Rules → List (List Cell) → ℕ → Option ℤ → Type 0
BeatsPriceOf cost r cells j value =
    (q : ℕ) (v : Option ℤ) → q ≤ 2 ^ 50 → IsChainValue (with_price (pricing cost r (no_prices r)) j q) cells v → IsAtMost v value
