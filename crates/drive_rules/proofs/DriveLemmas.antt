-- What follows from being a drive.
use Rattle.std.proofs.Common.{ℕ, ◌≡◌, ◌<◌, ◌≤◌, ◌+◌, ◌-◌, List, length, ◌∙◌, ap, arith, inl, inr}
use Rattle.std.proofs.lemmas.Bool.{cases_eq, cases_lt}
use Rattle.std.proofs.lemmas.List.{get_or_past}
use Rattle.std.specs.Prelude.{slice_index}
use Rattle.rail_specs.specs.Rules.{Rules, IsDrive}
use Rattle.rule_parts.specs.Shaped.{IsShaped}
use Rattle.drive_rules.specs.Verdict.{Moves}

-- no step of a drive begins and ends at a standstill
pub moves_of_drive : (r : Rules) (speeds : List ℕ) → IsShaped r → IsDrive r speeds → Moves r speeds
moves_of_drive r speeds s d i l =
    s.moving i (slice_index speeds i) (slice_index speeds (i + 1)) l
    (λ e. ap (λ (k : ℕ). slice_index speeds k) e ∙ d.start)
    (λ p. d.points i p (omega (arith, d.count)))
    (d.points (i + 1) (omega arith) (omega (arith, d.count)))

-- no speed of a drive is above the top
pub top_of_drive : (r : Rules) (speeds : List ℕ) → IsShaped r → IsDrive r speeds → (k : ℕ) → slice_index speeds k ≤ r.top
top_of_drive r speeds s d k = elim (cases_lt k (length r.steps)) [
  | inl l ↦ (d.steps k l).top.0
  | inr l ↦ elim (cases_eq k (length r.steps)) [
    | inl e ↦ (let b : length r.steps - 1 < length r.steps = omega (arith, s.some) in
        let f : k ≡ length r.steps - 1 + 1 = omega (arith, s.some) in
        rw f (d.steps (length r.steps - 1) b).top.1)
    | inr n ↦ rw (get_or_past speeds k 0 (omega (arith, d.count))) (omega arith)
  ]
]
