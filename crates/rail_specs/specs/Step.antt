-- What one step of a line asks of a train: its work, and the bounds of its time.
-- The net force is constant over a step, so the square of the speed is linear in the distance (elementary mechanics).
use Rattle.std.specs.Prelude.{ℕ, ◌+◌, ◌-◌, ◌*◌, ◌/◌, ◌<◌, ◌≤◌, ℤ, pos, negsuc, ◌+ℤ◌, ◌-ℤ◌, ◌*ℤ◌, ◌≤ℤ◌}
use Rattle.std.specs.Int.{div_ceil}
use Rattle.rail_specs.specs.declared.StepNumbers.{StepNumbers}
use Rattle.rail_specs.specs.declared.TrainNumbers.{TrainNumbers}

-- the energy of the train's motion at speed v
abbrev pub kinetic_energy : StepNumbers → ℕ → ℕ
kinetic_energy n v = 10000 * n.inertia * (v * v)

-- the work against the gradient, at 9.81 m/s^2
abbrev pub gradient_work : StepNumbers → ℤ
gradient_work n = pos (196200 * n.mass * n.metres) *ℤ n.gradient

-- the work against the resistance A + B v + C v^2 (Davis), with B v at the exit speed and C v^2 at the mean of the squares
abbrev pub resistance_work : StepNumbers → ℕ → ℕ → ℕ
resistance_work n v0 v1 = n.metres * (2000000 * n.a + 2000 * n.b * v1 + n.c * (v0 * v0 + v1 * v1))

-- the work that takes the train over the step from speed v0 to speed v1, in 0.5 microjoule
abbrev pub work : StepNumbers → ℕ → ℕ → ℤ
work n v0 v1 =
    ((pos (kinetic_energy n v1) -ℤ pos (kinetic_energy n v0)) +ℤ gradient_work n) +ℤ pos (resistance_work n v0 v1)

-- the part of the work that the exit speed decides
abbrev pub work_up : StepNumbers → ℕ → ℤ
work_up n v =
    (pos (kinetic_energy n v) +ℤ gradient_work n) +ℤ pos (n.metres * (2000000 * n.a + 2000 * n.b * v + n.c * (v * v)))

-- the part of the work that the entry speed pays
abbrev pub work_down : StepNumbers → ℕ → ℕ
work_down n v = (10000 * n.inertia - n.c * n.metres) * (v * v)

-- the time of a step is 2 metres / (v0 + v1); this is the greatest whole number of ms that is at most that
abbrev pub lower_time : ℕ → ℕ → ℕ → ℕ
lower_time metres v0 v1 = (200000 * metres) / (v0 + v1)

-- the least whole number of ms that is at least the step's time
abbrev pub upper_time : ℕ → ℕ → ℕ → ℕ
upper_time metres v0 v1 = div_ceil (200000 * metres) (v0 + v1)

-- the numbers of a train's step of this length in metres and this gradient in 1/10 per mille
abbrev pub step_of_train : TrainNumbers → ℕ → ℤ → StepNumbers
step_of_train t metres gradient = record { mass = t.mass; inertia = t.inertia; a = t.a; b = t.b; c = t.c; metres = metres; gradient = gradient }

-- the train whose step it is
abbrev pub train_of_step : StepNumbers → TrainNumbers
train_of_step n = record { mass = n.mass; inertia = n.inertia; a = n.a; b = n.b; c = n.c }

-- the numbers of a train are within their units' ranges
pub record IsTrainInRange (t : TrainNumbers) : Type 0 where
  pub mass : (1 ≤ t.mass) × (t.mass ≤ 100000)
  pub inertia : (1 ≤ t.inertia) × (t.inertia ≤ 120000)
  pub a : t.a ≤ 10000000
  pub b : t.b ≤ 10000000
  pub c : t.c ≤ 10000000

-- the numbers of a step are within their units' ranges
pub record IsInRange (n : StepNumbers) : Type 0 where
  pub train : IsTrainInRange (train_of_step n)
  pub metres : (1 ≤ n.metres) × (n.metres ≤ 1000)
  pub gradient : (negsuc 999 ≤ℤ n.gradient) × (n.gradient ≤ℤ pos 1000)

-- what the drag C v^2 takes over the step is below the kinetic energy, so that more speed at the entry means less work
abbrev pub HasSmallDrag : StepNumbers → Type 0
HasSmallDrag n = n.c * n.metres < 10000 * n.inertia
