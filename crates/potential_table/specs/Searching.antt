-- What the search for a price goes by.
use Rattle.std.specs.Prelude.{ℕ, ◌^◌, ◌<◌, ◌≤◌, ℤ, List, Option, Some}
use Rattle.bound_specs.specs.declared.Cell.{Cell}
use Rattle.bound_specs.specs.Chains.{IsAtMost}
use Rattle.bound_specs.specs.ChainValues.{IsChainValue, IsLess, with_price}
use Rattle.bound_specs.specs.Links.{Pricing}

-- there is a chain from the start's cell
abbrev pub HasChain : Pricing → List (List Cell) → Type 0
HasChain p cells = (value : ℤ) × IsChainValue p cells (Some value)

-- below this price of timing point j the chain value is smaller
abbrev pub IsSmallerBelow : Pricing → List (List Cell) → ℕ → ℕ → Type 0
IsSmallerBelow p cells j low =
    (q : ℕ) (v w : Option ℤ) → q < low → IsChainValue (with_price p j low) cells v → IsChainValue (with_price p j q) cells w → IsLess w v

-- from this price of timing point j on up to 2^50 it is no greater
abbrev pub IsNoGreaterFrom : Pricing → List (List Cell) → ℕ → ℕ → Type 0
IsNoGreaterFrom p cells j high =
    (q : ℕ) (v w : Option ℤ) → high ≤ q → q ≤ 2 ^ 50 → IsChainValue (with_price p j high) cells v → IsChainValue (with_price p j q) cells w → IsAtMost w v
