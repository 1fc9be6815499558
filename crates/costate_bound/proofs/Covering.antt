-- The cost of a train that regains a share of its braking work covers that share.
use Rattle.std.proofs.Common.{ℕ, suc, ◌*◌, arith}
use Rattle.std.specs.Prelude.{ℤ, pos, negsuc, min, ◌≤ℤ◌, ◌*ℤ◌}
use Rattle.std.proofs.lemmas.Int.{ints}
use Rattle.std.proofs.Math.Nat.{min-le_right, mul-le-mul_right, div-mul-le_self}
use Rattle.rail_specs.specs.Cost.{regained_cost}
use Rattle.rail_base.specs.Cost.{StaysWithin-regained_cost}
use Rattle.costate_bound.specs.Costs.{CoversWork}

covers : (share : ℕ) (w : ℤ) → w ≤ℤ regained_cost share w
covers share (pos n) = omega (arith, ints)
covers share (negsuc n) = omega (arith, ints, StaysWithin-regained_cost share (negsuc n))

returns_share : (share : ℕ) (w : ℤ) → (pos (min share 1000) *ℤ w) ≤ℤ (pos 1000 *ℤ regained_cost share w)
returns_share share (pos n) = omega (arith, ints, mul-le-mul_right n (min-le_right share 1000))
returns_share share (negsuc n) = omega (arith, ints, div-mul-le_self (min share 1000 * suc n) 1000)

pub CoversWork-regained_cost : (share : ℕ) → CoversWork share (regained_cost share)
CoversWork-regained_cost share = record { work = covers share; returned = returns_share share }
