-- How the lines behind the heading are read, one by one.
use Rattle.std.proofs.Common.{ℕ, ◌≡◌, ◌≤◌, ◌*◌, Bool, true, false, ◌&&◌, List, Some, Ok, Err, refl, ℤ, pos, negsuc, inl, inr}
use Rattle.std.specs.Prelude.{codes}
use Rattle.std.specs.Int.RustNames.{unsigned_abs}
use Rattle.std.proofs.lemmas.Bool.{cases_lt, lt-ltb, le-ltb}
use Rattle.route_file.specs.declared.fault.RouteFault.TheVariants.{Range}
use Rattle.rail_specs.specs.declared.StepNumbers.{StepNumbers}
use Rattle.rail_specs.specs.declared.TrainNumbers.{TrainNumbers}
use Rattle.rail_base.specs.Lines.{number, numbers_after}
use Rattle.route_file.specs.Route.{is_light_step, step_fault, step_of, step_on, unless}
use Rattle.rail_base.specs.Numbers.{is_within}
use Rattle.rail_specs.specs.Step.{step_of_train}
use Rattle.route_file.specs.RouteParts.{step_line}

-- a step whose line is of its form, and one of whose numbers is out of range
pub step-refused : (t : TrainNumbers) (n : ℕ) (line : List ℕ) (ns : List ℤ) → n ≤ 4006 → numbers_after (codes "step ") 3 line ≡ Some ns → is_light_step t.inertia t.c ns ≡ false →
    Err (Range n) ≡ unless (step_fault t.inertia t.c n line) (step_line t (step_on line))
step-refused t n line ns h e f = rw (le-ltb 4006 n h, e, f) refl

-- a step whose line is of its form, with its numbers in range
pub step-read : (t : TrainNumbers) (n : ℕ) (line : List ℕ) (ns : List ℤ) → n ≤ 4006 → numbers_after (codes "step ") 3 line ≡ Some ns → is_light_step t.inertia t.c ns ≡ true →
    Ok (step_line t (step_of (Some ns))) ≡ unless (step_fault t.inertia t.c n line) (step_line t (step_on line))
step-read t n line ns h e f = rw (le-ltb 4006 n h, e, f) refl

both-false : (a b : Bool) → a ≡ false → (a && b) ≡ false
both-false a b h = rw h refl

pub last-false : (a b : Bool) → b ≡ false → (a && b) ≡ false
last-false true b h = h
last-false false b h = refl

pub limit-refused : (t : TrainNumbers) (n : ℕ) (line : List ℕ) (ns : List ℤ) → n ≤ 4006 → numbers_after (codes "step ") 3 line ≡ Some ns → is_within (pos 1) (pos 12000) (number ns 2) ≡ false →
    Err (Range n) ≡ unless (step_fault t.inertia t.c n line) (step_line t (step_on line))
limit-refused t n line ns h e f = step-refused t n line ns h e (both-false _ _ (last-false _ _ f))

pub drag-refused : (t : TrainNumbers) (n : ℕ) (line : List ℕ) (ns : List ℤ) → n ≤ 4006 → numbers_after (codes "step ") 3 line ≡ Some ns → 10000 * t.inertia ≤ t.c * unsigned_abs (number ns 0) →
    Err (Range n) ≡ unless (step_fault t.inertia t.c n line) (step_line t (step_on line))
drag-refused t n line ns h e f = step-refused t n line ns h e (last-false _ _ (le-ltb (t.c * unsigned_abs (number ns 0)) (10000 * t.inertia) f))

-- a step that makes a row
pub step-made : (t : TrainNumbers) (n : ℕ) (line : List ℕ) (ns : List ℤ) (row : StepNumbers) (limit : ℕ) → n ≤ 4006 → numbers_after (codes "step ") 3 line ≡ Some ns →
    (is_within (pos 1) (pos 1000) (number ns 0) && is_within (negsuc 999) (pos 1000) (number ns 1)) ≡ true → is_within (pos 1) (pos 12000) (number ns 2) ≡ true →
    (10000 * t.inertia ≤ t.c * unsigned_abs (number ns 0) → false ≡ true) → row ≡ step_of_train t (unsigned_abs (number ns 0)) (number ns 1) → limit ≡ unsigned_abs (number ns 2) →
    Ok (record { row = row; limit = limit }) ≡ unless (step_fault t.inertia t.c n line) (step_line t (step_on line))
step-made t n line ns row limit h e ab d drag r l = elim (cases_lt (t.c * unsigned_abs (number ns 0)) (10000 * t.inertia)) [
  | inl less ↦ (let light : is_light_step t.inertia t.c ns ≡ true = rw (ab, d, lt-ltb (t.c * unsigned_abs (number ns 0)) (10000 * t.inertia) less) refl in
      rw (r, l) (step-read t n line ns h e light))
  | inr more ↦ absurd (cc (drag more))
]
