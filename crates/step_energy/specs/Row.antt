-- What a row holds of its step.
use Rattle.std.specs.Prelude.{◌+◌, ◌-◌, ◌*◌, ◌≡◌, ◌≤◌, pos, ◌+ℤ◌}
use Rattle.std.specs.Int.RustNames.{unsigned_abs}
use Rattle.rail_specs.specs.declared.StepNumbers.{StepNumbers}
use Rattle.rail_specs.specs.Step.{gradient_work, IsInRange, HasSmallDrag}
use Rattle.step_energy.specs.declared.row.StepRow.TheInside.{Inside}

-- the row of a step's numbers
abbrev pub row_of : StepNumbers → Inside
row_of n = record {
  numbers = n;
  rise = 10000 * n.inertia + n.c * n.metres;
  slope = 2000 * n.b * n.metres;
  base = gradient_work n +ℤ pos (2000000 * n.a * n.metres);
  fall = 10000 * n.inertia - n.c * n.metres;
  unit = 2000000 * n.metres;
}

-- a row in range, with the coefficients of its numbers
pub record IsRow (r : Inside) : Type 0 where
  pub in_range : IsInRange r.numbers
  pub small_drag : HasSmallDrag r.numbers
  pub rise : 10000 * r.numbers.inertia + r.numbers.c * r.numbers.metres ≡ r.rise
  pub slope : 2000 * r.numbers.b * r.numbers.metres ≡ r.slope
  pub base : gradient_work r.numbers +ℤ pos (2000000 * r.numbers.a * r.numbers.metres) ≡ r.base
  pub base_small : unsigned_abs r.base ≤ 39620000000000000
  pub fall : 10000 * r.numbers.inertia - r.numbers.c * r.numbers.metres ≡ r.fall
  pub unit : 2000000 * r.numbers.metres ≡ r.unit

-- numbers give back the row that they came from
pub row_of-numbers : (r : Inside) → IsRow r → row_of r.numbers ≡ r
row_of-numbers r h = λ i. record { numbers = r.numbers; rise = h.rise i; slope = h.slope i; base = h.base i; fall = h.fall i; unit = h.unit i }
