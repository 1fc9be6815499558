-- What a box has offered, and what taking, asking and improving mean.
use Rattle.std.specs.Prelude.{ℕ, ◌≡◌, ◌≤◌, ◌+◌, ◌-◌, ◌^◌, ◌==◌, ◌∷◌, ◌++◌, ℤ, ◌≤ℤ◌, min, Bool, List, [], length, Option, Some, None}
use Rattle.std.specs.List.{AllByRecursion}
use Rattle.rail_specs.specs.Rules.{Rules, IsDrive}
use Rattle.rail_specs.specs.Times.{IsOnTimeUp}
use Rattle.rail_specs.specs.Cost.{cost_of}

-- the drives that a box still offers, those that were taken since it last began, and a count of begins
pub record State : Type 0 where
  pub offered : List (List ℕ)
  pub taken : List (List ℕ)
  pub begun : ℕ

abbrev pub state : List (List ℕ) → List (List ℕ) → ℕ → State
state offered taken begun = record { offered = offered; taken = taken; begun = begun }

-- what stands past the last box
abbrev pub no_state : State
no_state = state [] [] 0

-- a count has risen, or stands at its end
abbrev pub Rose : ℕ → ℕ → Type 0
Rose before now = min (before + 1) (2 ^ 64 - 1) ≤ now

-- the first offer is taken and joins the taken ones, or there is none and nothing changes
abbrev pub Takes : Option (List ℕ) → State → State → Type 0
Takes None a b = (a.offered ≡ []) × (b ≡ a)
Takes (Some d) a b = (a.offered ≡ d ∷ b.offered) × (b.taken ≡ a.taken ++ d ∷ []) × (b.begun ≡ a.begun)

-- whether nothing was taken
abbrev pub is_silent : State → Bool
is_silent s = length s.taken == 0

-- a drive that is on time
pub record IsOnTimeDrive (r : Rules) (d : List ℕ) : Type 0 where
  pub drive : IsDrive r d
  pub on_time : IsOnTimeUp r d

-- the best drive costs at most the offer, where the offer is a drive on time
abbrev pub AtMost : (ℤ → ℤ) → Rules → List ℕ → List ℕ → Type 0
AtMost cost r best offer = IsOnTimeDrive r offer → cost_of cost r best ≤ℤ cost_of cost r offer

-- a box was begun and asked: it has no offers left, and the best drive costs at most each that was taken and is a drive on time
pub record Improves (cost : ℤ → ℤ) (r : Rules) (best : List ℕ) (old new : State) : Type 0 where
  pub offered : new.offered ≡ []
  pub begun : Rose old.begun new.begun
  pub cheapest : AllByRecursion (AtMost cost r best) new.taken
