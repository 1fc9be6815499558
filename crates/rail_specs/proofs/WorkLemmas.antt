-- How the work of a step depends on its speeds.
use Rattle.std.proofs.Common.{ℕ, ◌+◌, ◌-◌, ◌*◌, ◌≤◌, ◌≡◌, arith, ap}
use Rattle.std.specs.Prelude.{pos, ◌-ℤ◌, ◌≤ℤ◌}
use Rattle.std.proofs.lemmas.Int.{ints}
use Rattle.std.proofs.Math.Nat.{mul-le-mul, mul-le-mul_left}
use Rattle.rail_specs.specs.declared.StepNumbers.{StepNumbers}
use Rattle.rail_specs.specs.Step.{work, work_up, work_down, HasSmallDrag, kinetic_energy, resistance_work}

pub square_rises : (v w : ℕ) → v ≤ w → v * v ≤ w * w
square_rises v w h = omega (arith, mul-le-mul h h)

pub drag_rises : (n : StepNumbers) (v0 w0 v1 w1 : ℕ) → v0 ≤ w0 → v1 ≤ w1 → resistance_work n v0 v1 ≤ resistance_work n w0 w1
drag_rises n v0 w0 v1 w1 g h =
    mul-le-mul_left n.metres (omega (arith, mul-le-mul_left (2000 * n.b) h, mul-le-mul_left n.c (square_rises v0 w0 g), mul-le-mul_left n.c (square_rises v1 w1 h)))

pub kinetic_rises : (n : StepNumbers) (v w : ℕ) → v ≤ w → kinetic_energy n v ≤ kinetic_energy n w
kinetic_rises n v w h = mul-le-mul_left (10000 * n.inertia) (square_rises v w h)

-- the kinetic energy, with what the drag takes of it set apart
pub kinetic_parts : (n : StepNumbers) (v : ℕ) → HasSmallDrag n → kinetic_energy n v ≡ work_down n v + n.c * n.metres * (v * v)
kinetic_parts n v h =
    let q : ℕ = 10000 * n.inertia - n.c * n.metres in
    let e : 10000 * n.inertia ≡ q + n.c * n.metres = omega arith in
    omega (arith, ap (λ (t : ℕ). t * (v * v)) e)

pub work_parts : (n : StepNumbers) (v0 v1 : ℕ) → HasSmallDrag n → work n v0 v1 ≡ work_up n v1 -ℤ pos (work_down n v0)
work_parts n v0 v1 h = omega (arith, ints, kinetic_parts n v0 h)

pub work_up_rises : (n : StepNumbers) (v w : ℕ) → v ≤ w → work_up n v ≤ℤ work_up n w
work_up_rises n v w h = omega (arith, ints, drag_rises n 0 0 v w (omega arith) h, kinetic_rises n v w h)

pub work_down_rises : (n : StepNumbers) (v w : ℕ) → v ≤ w → work_down n v ≤ work_down n w
work_down_rises n v w h = mul-le-mul_left (10000 * n.inertia - n.c * n.metres) (square_rises v w h)

pub work_rises : (n : StepNumbers) (v0 v1 w1 : ℕ) → v1 ≤ w1 → work n v0 v1 ≤ℤ work n v0 w1
work_rises n v0 v1 w1 h = omega (arith, ints, drag_rises n v0 v0 v1 w1 (omega arith) h, kinetic_rises n v1 w1 h)

pub work_falls : (n : StepNumbers) (v0 w0 v1 : ℕ) → HasSmallDrag n → v0 ≤ w0 → work n w0 v1 ≤ℤ work n v0 v1
work_falls n v0 w0 v1 d h =
    omega (arith, ints, kinetic_parts n v0 d, kinetic_parts n w0 d, work_down_rises n v0 w0 h)
