-- The first rule that a list of speeds breaks.
use Rattle.std.specs.Prelude.{ℕ, ◌+◌, ◌≡◌, ◌<◌, ◌≤◌, ℤ, pos, neg_ℤ, Bool, List, [], ◌∷◌, map, length, slice_index, Option, Some, None, ◌==◌, nat_lt, if◌then◌else◌, ◌||◌}
use Rattle.std.specs.Int.RustNames.{int_lt, unsigned_abs}
use Rattle.std.specs.Option.{option_map, option_or}
use Rattle.rail_specs.specs.Rules.{Rules, is_stop, step_at, timing_at, traction_work, brake_work}
use Rattle.rail_specs.specs.Times.{arrival_up}
use Rattle.rail_specs.specs.Step.{work}
use Rattle.rail_base.specs.First.{first_below, first_in}
use Rattle.drive_rules.specs.declared.judge.Rule.{Rule}
use Rattle.drive_rules.specs.declared.judge.Rule.TheVariants.{Length, Start, Stop, Standing, Limit, Top, Traction, Brake, Late}
use Rattle.drive_rules.specs.declared.judge.Judged.{Judged}
use Rattle.drive_rules.specs.declared.judge.Judged.TheVariants.{Kept, Broken}

-- the rule that speed v breaks at point k
abbrev pub point_rule : Rules → ℕ → ℕ → Option Rule
point_rule r k v =
    if k == 0 then (if v == r.start then None else Some Start)
    else if is_stop r k then (if v == 0 then None else Some Stop)
    else if v == 0 then Some Standing else None

-- the rules on forces of step i from v0 to v1, each with the test that it is broken
abbrev pub force_tests : Rules → ℕ → ℕ → ℕ → List (Bool × Rule)
force_tests r i v0 v1 =
    (int_lt (pos (traction_work r i v1)) (work (step_at r i) v0 v1), Traction)
    ∷ (int_lt (work (step_at r i) v0 v1) (neg_ℤ (pos (brake_work r i v0))), Brake)
    ∷ []

-- the rules of step i from v0 to v1 in the order in which they are tried, each with the test that it is broken
abbrev pub step_tests : Rules → ℕ → ℕ → ℕ → List (Bool × Rule)
step_tests r i v0 v1 =
    (nat_lt (slice_index r.limits i) v0 || nat_lt (slice_index r.limits i) v1, Limit)
    ∷ (nat_lt r.top v0 || nat_lt r.top v1, Top)
    ∷ force_tests r i v0 v1

-- the first of some rules that is broken
abbrev pub first_broken : List (Bool × Rule) → Option Rule
first_broken tests = first_in (map (λ t. if t.0 then Some t.1 else None) tests)

-- the first rule on forces that step i breaks from v0 to v1
abbrev pub force_rule : Rules → ℕ → ℕ → ℕ → Option Rule
force_rule r i v0 v1 = first_broken (force_tests r i v0 v1)

-- the first rule that step i breaks from v0 to v1
abbrev pub step_rule : Rules → ℕ → ℕ → ℕ → Option Rule
step_rule r i v0 v1 = first_broken (step_tests r i v0 v1)

-- the rule that a list of speeds breaks at point k, and the point
abbrev pub point_fault : Rules → List ℕ → ℕ → Option (Rule × ℕ)
point_fault r speeds k = option_map (λ rule. (rule, k)) (point_rule r k (slice_index speeds k))

-- the first rule that a list of speeds breaks over step i, and the step
abbrev pub step_fault : Rules → List ℕ → ℕ → Option (Rule × ℕ)
step_fault r speeds i = option_map (λ rule. (rule, i)) (step_rule r i (slice_index speeds i) (slice_index speeds (i + 1)))

-- a list of speeds reaches timing point j too late: the rule, and the point
abbrev pub timing_fault : Rules → List ℕ → ℕ → Option (Rule × ℕ)
timing_fault r speeds j =
    let t = timing_at r j in
    if int_lt t.latest (pos (arrival_up r speeds t.point)) then Some (Late, t.point) else None

-- the first rule that the speeds break, and where
abbrev pub verdict : Rules → List ℕ → Option (Rule × ℕ)
verdict r speeds =
    if length speeds == length r.steps + 1 then
    option_or (first_below (point_fault r speeds) (length speeds))
    (option_or (first_below (step_fault r speeds) (length r.steps)) (first_below (timing_fault r speeds) (length r.timings)))
    else Some (Length, 0)

-- no step begins and ends at a standstill
abbrev pub Moves : Rules → List ℕ → Type 0
Moves r speeds = (i : ℕ) → i < length r.steps → 1 ≤ slice_index speeds i + slice_index speeds (i + 1)

-- no rule is broken
abbrev pub IsKept : Judged → Type 0
IsKept (Kept total) = Unit {0}
IsKept (Broken rule place) = ⊥

-- the cost, where there is one, is at most this in absolute value
abbrev pub CostsAtMost : ℕ → Judged → Type 0
CostsAtMost most (Kept total) = unsigned_abs total ≤ most
CostsAtMost most (Broken rule place) = Unit {0}

-- a drive on time with its cost, or the first broken rule
abbrev pub Judges : Judged → Option (Rule × ℕ) → ℤ → Type 0
Judges (Kept total) first cost = (first ≡ None) × (total ≡ cost)
Judges (Broken rule place) first cost = first ≡ Some (rule, place)
