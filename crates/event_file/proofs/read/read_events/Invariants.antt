use Rattle.std.proofs.Common.{◌≡◌, ◌++◌, ◌<◌, ◌≤◌}
use Rattle.rail_base.specs.First.{first_in}
use Rattle.event_file.specs.Events.{events_on, line_faults}
use Rattle.event_file.proofs.read.read_events.Given as goal

abbrev pub invariant-loop-line : goal.invariant-loop-line
invariant-loop-line l = record {
  next : (goal.iterator-loop-line).can_next l.lines × (goal.iterator-loop-line).is_finite l.lines;
  faults : first_in (line_faults 1 0 l.initial.lines) ≡ first_in (line_faults l.n l.advises l.lines);
  events : events_on l.initial.lines ≡ l.events.items ++ events_on l.lines;
  number : l.n ≤ 1001;
  advises : l.advises < l.n;
}
