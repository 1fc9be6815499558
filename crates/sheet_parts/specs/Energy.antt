-- Energies in the units that people read. The program counts in 0.5 microjoule; a kWh is 3.6 million joules.
use Rattle.std.specs.Prelude.{◌==◌, ℤ, pos, ◌-ℤ◌, ◌*ℤ◌, Option, Some, None, if◌then◌else◌}
use Rattle.std.specs.Int.RustNames.{unsigned_abs}
use Rattle.sheet_parts.specs.Rounded.{rounded_up, rounded_down}

-- an energy in hundredths of a kWh, rounded up: no cost is shown below what it is
abbrev pub kilowatt_hours_up : ℤ → ℤ
kilowatt_hours_up energy = rounded_up 72000000000 energy

-- the same rounded down: no lower bound is shown above what it is
abbrev pub kilowatt_hours_down : ℤ → ℤ
kilowatt_hours_down energy = rounded_down 72000000000 energy

-- an energy in kilojoules, rounded up and down
abbrev pub kilojoules_up : ℤ → ℤ
kilojoules_up energy = rounded_up 2000000000 energy

abbrev pub kilojoules_down : ℤ → ℤ
kilojoules_down energy = rounded_down 2000000000 energy

-- what of an energy lies above a bound, in hundredths of a per cent of the energy's size, rounded up: no drive saves more. None of no energy
abbrev pub saving_of : ℤ → ℤ → Option ℤ
saving_of energy bound =
    if unsigned_abs energy == 0 then None else Some (rounded_up (unsigned_abs energy) (pos 10000 *ℤ (energy -ℤ bound)))
