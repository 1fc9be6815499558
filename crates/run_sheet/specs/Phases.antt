-- How far a train goes in each phase.
use Rattle.std.specs.Prelude.{ℕ, List, length, if◌then◌else◌}
use Rattle.rail_specs.specs.Rules.{Rules, step_at}
use Rattle.rail_specs.specs.Times.{sum_below}
use Rattle.drive_report.specs.declared.kinds.Phase.{Phase}
use Rattle.drive_report.specs.Phase.{phase_at, is_same}

-- the metres of step i, where it has this phase
abbrev pub metres_of : Rules → List ℕ → Phase → ℕ → ℕ
metres_of r speeds phase i = if is_same (phase_at r speeds i) phase then (step_at r i).metres else 0

-- the metres of all steps that have this phase
abbrev pub phase_metres : Rules → List ℕ → Phase → ℕ
phase_metres r speeds phase = sum_below (metres_of r speeds phase) (length r.steps)
