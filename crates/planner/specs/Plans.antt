-- What a plan is.
use Rattle.std.specs.Int.RustNames.{unsigned_abs}
use Rattle.std.specs.Prelude.{ℕ, ◌+◌, ◌^◌, ◌<◌, ◌≤◌, ◌≡◌, ◌⊎◌, ◌↔◌, IsTrue, ℤ, List, Option, Some, length, slice_index_or}
use Rattle.bound_specs.specs.declared.Cell.{Cell}
use Rattle.rail_specs.specs.Rules.{Rules, NoDrive}
use Rattle.rail_specs.specs.Cost.{cost_of, IsBound, GapMet}
use Rattle.bound_specs.specs.Cells.{cell_count, CellsFit, AreSingle}
use Rattle.bound_specs.specs.Chains.{IsAtMost, ArePotentials}
use Rattle.bound_specs.specs.ChainValues.{IsChainValue}
use Rattle.bound_specs.specs.Prices.{Prices, ArePrices, AreFor}
use Rattle.bound_specs.specs.Links.{low_cost}
use Rattle.cell_splitting.specs.Splits.{ComeBySplits, LieInside}
use Rattle.cell_splitting.specs.Even.{AreEven}
use Rattle.phase_composer.specs.Best.{IsBestOfFamily, IsLate}
use Rattle.price_rounds.specs.Rounds.{pricing, IsLastBest, BeatsAlone, IsAlone}
use Rattle.proposers.specs.States.{State, Improves, no_state}
use Rattle.relaxed_costs.specs.Relaxed.{IsLeastRelaxed}
use Rattle.planner.specs.Works.{AreWhole}
use Rattle.planner.specs.declared.answer.Plan.{Plan as PlanData}
use Rattle.planner.specs.declared.answer.Answer.{Answer}
use Rattle.planner.specs.declared.answer.Answer.TheVariants.{NoDrive as AnswerNoDrive, Late as AnswerLate, Drive as AnswerDrive}

-- what holds of a plan at a cost of work, where so many splits are allowed and the gap has this tolerance, in per mille
pub record IsPlan (cost : ℤ → ℤ) (r : Rules) (budget tolerance : ℕ) (p : PlanData) (whole even : List (List Cell)) (times : ℕ) : Type 0 where
  -- the drive is on time, and costs at most each member of the family of composed drives that is on time
  pub best : IsBestOfFamily cost r p.drive
  pub costs : p.cost ≡ cost_of cost r p.drive
  -- cost and bound are small numbers
  pub small_cost : unsigned_abs p.cost ≤ 2 ^ 99
  pub small_bound : unsigned_abs p.bound ≤ 2 ^ 99
  -- the cells begin as one for each point, over the exact ranges of speeds, and come from the even cells by splits
  pub are_whole : AreWhole r whole
  pub are_even : AreEven whole budget even times
  pub split : ComeBySplits even p.cells
  pub fit : CellsFit r p.cells
  -- there are as many splits as cells more than points, and at most as many as are allowed
  pub count : cell_count p.cells ≡ length r.steps + 1 + p.splits
  pub within : p.splits ≤ budget
  -- the potentials are what least chains cost at the prices, and the bound is their chain value
  pub timings : AreFor r p.prices
  pub potentials : ArePotentials (low_cost (pricing cost r p.prices)) p.cells p.potentials
  pub value : IsChainValue (pricing cost r p.prices) p.cells (Some p.bound)
  -- no drive on time, step times rounded down, costs less than the bound
  pub bounds : IsBound cost r p.bound
  -- no other price of the last timing point gives a greater chain value, and no prices of one timing point alone do
  pub last : IsLastBest cost r p.cells p.prices (Some p.bound)
  pub alone : BeatsAlone cost r p.cells (Some p.bound)
  -- the gap is met exactly where cost and bound differ by at most the tolerance
  pub met : IsTrue p.met ↔ GapMet p.cost p.bound tolerance
  -- where the gap is open, the splits are spent or each cell has one speed, and each cell lies inside one of the even cells
  pub spent : (IsTrue p.met → ⊥) → (p.splits ≡ budget) ⊎ AreSingle p.cells
  pub inside : LieInside p.cells even
  -- so the bound is no less than the chain value of the even cells at prices of one timing point alone
  pub beats_even : (prices : Prices) (v w : Option ℤ) → ArePrices prices → AreFor r prices → IsAlone prices → IsChainValue (pricing cost r prices) even v
      → IsChainValue (pricing cost r prices) p.cells w → IsAtMost v (Some p.bound)
  -- where each cell has one speed, the bound is the least over all drives of the cost and of what the prices charge for lateness
  pub single : AreSingle p.cells → IsLeastRelaxed (pricing cost r p.prices) p.bound

-- some cells are those that the plan's come from
abbrev pub IsSomePlan : (ℤ → ℤ) → Rules → ℕ → ℕ → PlanData → Type 0
IsSomePlan cost r budget tolerance p =
    (whole : List (List Cell)) × (even : List (List Cell)) × (times : ℕ) × IsPlan cost r budget tolerance p whole even times

-- the answer to the rules of a run: no drive exactly where there is none, late exactly where none is on time, and else a plan
abbrev pub IsAnswer : (ℤ → ℤ) → Rules → ℕ → ℕ → Answer → Type 0
IsAnswer cost r budget tolerance AnswerNoDrive = NoDrive r
IsAnswer cost r budget tolerance (AnswerLate timing arrival) = IsLate r timing arrival
IsAnswer cost r budget tolerance (AnswerDrive p) = IsSomePlan cost r budget tolerance p

-- so many boxes were begun and asked for their drives, each place by place, where the answer is a plan; and else none of them was
abbrev pub AreAsked : (ℤ → ℤ) → Rules → ℕ → List State → List State → Answer → Type 0
AreAsked cost r boxes before now AnswerNoDrive = now ≡ before
AreAsked cost r boxes before now (AnswerLate timing arrival) = now ≡ before
AreAsked cost r boxes before now (AnswerDrive p) =
    (k : ℕ) → k < boxes → Improves cost r p.drive (slice_index_or before k no_state) (slice_index_or now k no_state)
