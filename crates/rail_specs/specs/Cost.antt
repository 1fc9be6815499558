-- What work costs, what a drive costs, and bounds of that.
use Rattle.std.specs.Prelude.{ℕ, suc, zero, ◌*◌, ◌/◌, ◌≤◌, min, neg_ℤ, ℤ, pos, negsuc, ◌+ℤ◌, ◌-ℤ◌, ◌*ℤ◌, ◌≤ℤ◌, List, length}
use Rattle.std.specs.Int.RustNames.{unsigned_abs}
use Rattle.rail_specs.specs.Rules.{Rules, work_at, IsDrive}
use Rattle.rail_specs.specs.Times.{IsOnTimeDown}

-- more work costs no less
abbrev pub Grows : (ℤ → ℤ) → Type 0
Grows cost = (w w' : ℤ) → w ≤ℤ w' → cost w ≤ℤ cost w'

-- work costs at most itself, in absolute value
abbrev pub StaysWithin : (ℤ → ℤ) → Type 0
StaysWithin cost = (w : ℤ) → unsigned_abs (cost w) ≤ unsigned_abs w

-- the energy of a train that gets nothing back from braking: the work where it is positive, and else nothing
abbrev pub traction_cost : ℤ → ℤ
traction_cost (pos n) = pos n
traction_cost (negsuc n) = pos 0

-- what braking gives back: a share, in per mille, of the size of its work, rounded down; a share above 1,000 counts as 1,000
abbrev pub given_back : ℕ → ℕ → ℕ
given_back share size = (min share 1000 * size) / 1000

-- the energy of a train whose brakes give back a share of their work: the work where it is positive, and else minus what is given back
abbrev pub regained_cost : ℕ → ℤ → ℤ
regained_cost share (pos n) = pos n
regained_cost share (negsuc n) = neg_ℤ (pos (given_back share (suc n)))

-- f 0 + .. + f (n - 1)
abbrev pub int_sum_below : (ℕ → ℤ) → ℕ → ℤ
int_sum_below f zero = pos 0
int_sum_below f (suc n) = int_sum_below f n +ℤ f n

-- the cost of a list of speeds: the sum of the costs of its steps' work
abbrev pub cost_of : (ℤ → ℤ) → Rules → List ℕ → ℤ
cost_of cost r speeds = int_sum_below (λ i. cost (work_at r speeds i)) (length r.steps)

-- every drive on time, with times rounded down, costs at least the bound
abbrev pub IsBound : (ℤ → ℤ) → Rules → ℤ → Type 0
IsBound cost r bound = (speeds : List ℕ) → IsDrive r speeds → IsOnTimeDown r speeds → bound ≤ℤ cost_of cost r speeds

-- energy and bound differ by at most the tolerance, in per mille of the size of the energy, which may be negative where braking gives
-- energy back
abbrev pub GapMet : ℤ → ℤ → ℕ → Type 0
GapMet energy bound tolerance = (pos 1000 *ℤ (energy -ℤ bound)) ≤ℤ pos (tolerance * unsigned_abs energy)
