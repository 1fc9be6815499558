-- What holds of every train that is read.
use Rattle.std.specs.Prelude.{◌≡◌, ◌≤◌, length}
use Rattle.rail_specs.specs.declared.TrainNumbers.{TrainNumbers}
use Rattle.rail_specs.specs.Step.{IsTrainInRange}
use Rattle.rail_specs.specs.Table.{IsForceTable}
use Rattle.train_file.specs.declared.train.Train.{Train}

-- what the work of its steps is computed from
abbrev pub numbers_of : Train → TrainNumbers
numbers_of t = record { mass = t.mass; inertia = t.inertia; a = t.a; b = t.b; c = t.c }

-- the version is 1 or 2, the numbers are within their units' ranges, and both tables are tables with one top
pub record IsTrain (t : Train) : Type 0 where
  pub version : (1 ≤ t.version) × (t.version ≤ 2)
  pub short : t.length ≤ 1000
  pub share : t.regeneration ≤ 1000
  pub nothing_back : t.version ≡ 1 → t.regeneration ≡ 0
  pub numbers : IsTrainInRange (numbers_of t)
  pub traction : IsForceTable t.traction
  pub brake : IsForceTable t.brake
  pub tops : length t.traction ≡ length t.brake
