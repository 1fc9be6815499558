-- What lines without a fault say is in range.
use Rattle.std.proofs.Common.{ℕ, ◌≡◌, ◌<◌, ◌≤◌, ◌+◌, ◌*◌, true, List, [], ◌∷◌, length, Option, Some, None, refl, sym, ◌∙◌, arith, inl, inr, ℤ, pos, negsuc, ◌≤ℤ◌, ltb}
use Rattle.std.specs.Prelude.{codes}
use Rattle.std.proofs.lemmas.Bool.{cases_Bool, ltb-false}
use Rattle.std.proofs.lemmas.Bool.Decides.{nat_tests}
use Rattle.std.proofs.lemmas.Int.{ints}
use Rattle.std.specs.Str.{bytes_eq}
use Rattle.std.specs.List.{AllByRecursion}
use Rattle.rail_base.specs.First.{first_in}
use Rattle.std.specs.Option.{option_or}
use Rattle.rail_base.specs.Lines.{numbers_after}
use Rattle.route_file.specs.Route.{RouteStep, behind_faults, end_fault, entry_faults, form_then_range, is_light_step, is_step_line, step_fault, step_of, step_on, steps_on}

-- where there is no first of two, there is neither
option_or-none : {X : Type 0} (a b : Option X) → option_or a b ≡ None → (a ≡ None) × (b ≡ None)
option_or-none None b h = (refl, h)
option_or-none (Some x) b h = absurd (cc h)

-- a step of a train with this inertia mass and coefficient c is in range, and its drag is small
pub record IsGoodStep (inertia c : ℕ) (s : RouteStep) : Type 0 where
  pub metres : (1 ≤ s.metres) × (s.metres ≤ 1000)
  pub gradient : (negsuc 999 ≤ℤ s.gradient) × (s.gradient ≤ℤ pos 1000)
  pub limit : (1 ≤ s.limit) × (s.limit ≤ 12000)
  pub drag : c * s.metres < 10000 * inertia

light-step : (inertia c : ℕ) (ns : List ℤ) → is_light_step inertia c ns ≡ true → IsGoodStep inertia c (step_of (Some ns))
light-step inertia c ns h = grind (arith, nat_tests, ints)

form-good : (inertia c n : ℕ) (o : Option (List ℤ)) → form_then_range n o (is_light_step inertia c) ≡ None → IsGoodStep inertia c (step_of o)
form-good inertia c n None h = absurd (cc h)
form-good inertia c n (Some ns) h = elim (cases_Bool (is_light_step inertia c ns)) [
  | inl light ↦ light-step inertia c ns light
  | inr heavy ↦ (let g = rw heavy at h in absurd (cc g))
]

step-good : (inertia c n : ℕ) (line : List ℕ) → step_fault inertia c n line ≡ None → IsGoodStep inertia c (step_on line) × (n ≤ 4006)
step-good inertia c n line h = elim (cases_Bool (ltb 4006 n)) [
  | inl many ↦ (let g = rw many at h in absurd (cc g))
  | inr few ↦ (form-good inertia c n (numbers_after (codes "step ") 3 line) (rw few at h), ltb-false 4006 n few)
]

-- the steps on lines without a fault, from line n on
pub record AreGoodSteps (inertia c n : ℕ) (ss : List RouteStep) : Type 0 where
  pub good : AllByRecursion (IsGoodStep inertia c) ss
  pub some : 9 ≤ n + length ss
  pub few : n + length ss ≤ 4007

end-good : (n : ℕ) → end_fault n ≡ None → 9 ≤ n
end-good n h = elim (cases_Bool (ltb n 9)) [
  | inl early ↦ (let g = rw early at h in absurd (cc g))
  | inr late ↦ ltb-false n 9 late
]

none-behind : (n : ℕ) (ls : List (List ℕ)) → first_in (behind_faults n ls) ≡ None → ls ≡ []
none-behind n [] h = refl
none-behind n (line ∷ ls) h = absurd (cc h)

faults-step : (inertia c n : ℕ) (line : List ℕ) (ls : List (List ℕ)) → is_step_line line ≡ true →
    first_in (entry_faults inertia c n (line ∷ ls)) ≡ option_or (step_fault inertia c n line) (first_in (entry_faults inertia c (n + 1) ls))
faults-step inertia c n line ls step = rw step refl

pub faultless : (inertia c n : ℕ) (ls : List (List ℕ)) → n ≤ 4007 → first_in (entry_faults inertia c n ls) ≡ None → AreGoodSteps inertia c n (steps_on ls)
faultless inertia c n [] small h = absurd (cc h)
faultless inertia c n (line ∷ ls) small h = elim (cases_Bool (is_step_line line)) [
  | inl step ↦ (let g = option_or-none (step_fault inertia c n line) (first_in (entry_faults inertia c (n + 1) ls)) (sym (faults-step inertia c n line ls step) ∙ h) in
      let s = step-good inertia c n line g.0 in
      let f = faultless inertia c (n + 1) ls (omega (arith, s.1)) g.1 in
      rw step record { good = (s.0, f.good); some = omega (arith, f.some); few = omega (arith, f.few) })
  | inr other ↦ elim (cases_Bool (bytes_eq line (codes "end"))) [
    | inl end ↦ (let g = option_or-none (end_fault n) (first_in (behind_faults (n + 1) ls)) (rw (other, end) at h) in
        let e = none-behind (n + 1) ls g.1 in
        rw (other, e) record { good = tt; some = omega (arith, end-good n g.0); few = omega arith })
    | inr bad ↦ (let g = rw (other, bad) at h in absurd (cc g))
  ]
]
