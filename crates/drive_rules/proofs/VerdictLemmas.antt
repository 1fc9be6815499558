-- How a search goes on.
use Rattle.std.proofs.Common.{ℕ, zero, suc, ◌≡◌, ◌<◌, ◌+◌, Option, None, Some, refl, subst, inl, inr, arith, add-one}
use Rattle.std.proofs.lemmas.Bool.{cases_eq}
use Rattle.std.specs.Prelude.{ℤ, ◌+ℤ◌, List, slice_index}
use Rattle.rail_specs.specs.Times.{sum_below}
use Rattle.rail_specs.specs.Cost.{int_sum_below}
use Rattle.rail_specs.specs.Rules.{Rules}
use Rattle.drive_rules.specs.declared.judge.Rule.{Rule}
use Rattle.std.specs.Option.{option_or}
use Rattle.rail_base.specs.First.{first_below}
use Rattle.drive_rules.specs.Verdict.{step_rule, step_fault}

-- where there is no first of two, there is neither
pub option_or-none : {X : Type 0} (a b : Option X) → option_or a b ≡ None → (a ≡ None) × (b ≡ None)
option_or-none None b h = (refl, h)
option_or-none (Some x) b h = absurd (cc h)

pub first_below-next : {X : Type 0} (f : ℕ → Option X) (n : ℕ) → first_below f (n + 1) ≡ option_or (first_below f n) (f n)
first_below-next f n = rw (add-one n) refl

pub first_below-found : {X : Type 0} (f : ℕ → Option X) (i n : ℕ) (x : X) → first_below f i ≡ None → f i ≡ Some x → i < n → first_below f n ≡ Some x
first_below-found f i zero x h e l = absurd (omega arith)
first_below-found f i (suc n) x h e l = elim (cases_eq i n) [
  | inl same ↦ rw (subst (λ (j : ℕ). first_below f j ≡ None) same h) (subst (λ (j : ℕ). f j ≡ Some x) same e)
  | inr apart ↦ rw (first_below-found f i n x h e (omega arith)) refl
]

pub step_fault-some : (r : Rules) (speeds : List ℕ) (i : ℕ) (rule : Rule) →
    step_rule r i (slice_index speeds i) (slice_index speeds (i + 1)) ≡ Some rule → step_fault r speeds i ≡ Some (rule, i)
step_fault-some r speeds i rule h = rw h refl

pub ruleset firsts = (first_below-next, first_below-found)

pub sum_below-next : (f : ℕ → ℕ) (n : ℕ) → sum_below f (n + 1) ≡ sum_below f n + f n
sum_below-next f n = rw (add-one n) refl

pub int_sum_below-next : (f : ℕ → ℤ) (n : ℕ) → int_sum_below f (n + 1) ≡ int_sum_below f n +ℤ f n
int_sum_below-next f n = rw (add-one n) refl

pub ruleset sums = (sum_below-next, int_sum_below-next)
