use Rattle.std.proofs.Common.{ℕ, ◌<◌, ◌≤◌, ◌-◌, length}
use Rattle.std.specs.Prelude.{slice_index_or, IsTrue, IsFalse}
use Rattle.bound_specs.specs.Cells.{no_cell}
use Rattle.link_windows.specs.Windows.{is_reached}
use Rattle.link_windows.proofs.step_links.StepLinks.first_beyond.Given as goal

-- cells below `low` are reached, and those from `high` on are not
abbrev pub invariant-loop-low : goal.invariant-loop-low
invariant-loop-low g l = record {
  ordered : l.low ≤ l.high;
  within : l.high ≤ length l.cells;
  before : (b : ℕ) → b < l.low → IsTrue (is_reached l.self.priced.rules l.self.step l.a (slice_index_or l.cells b no_cell));
  behind : (b : ℕ) → l.high ≤ b → b < length l.cells → IsFalse (is_reached l.self.priced.rules l.self.step l.a (slice_index_or l.cells b no_cell));
}

abbrev pub decreases-loop-low : goal.decreases-loop-low
decreases-loop-low g l = l.high - l.low
