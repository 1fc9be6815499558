use Rattle.std.proofs.Common.{◌≡◌, ◌+◌, ◌*◌, ◌≤◌, length}
use Rattle.rail_base.specs.First.{first_in}
use Rattle.route_file.specs.Route.{entry_faults, row_counts, steps_on}
use Rattle.route_file.specs.RouteParts.{HasSteps}
use Rattle.route_file.proofs.entries.read_steps.Given as goal

abbrev pub invariant-loop-line : goal.invariant-loop-line
invariant-loop-line g l = record {
  next : (goal.iterator-loop-line g).can_next l.lines × (goal.iterator-loop-line g).is_finite l.lines;
  faults : first_in (entry_faults l.train.inertia l.train.c 7 l.initial.lines) ≡ first_in (entry_faults l.train.inertia l.train.c l.n l.lines);
  read : HasSteps l.train (steps_on l.initial.lines) (steps_on l.lines) l.lists;
  number : l.n ≡ 7 + length l.lists.rows.items;
  few : length l.lists.rows.items ≤ 4000;
  end : l.lists.end ≤ 1000 * length l.lists.rows.items;
  counted : l.steps ≡ l.fn.steps + length l.lists.rows.items;
  made : length l.lists.rows.items + row_counts l.train.inertia l.train.c l.n l.lines ≡ row_counts l.train.inertia l.train.c 7 l.initial.lines;
}
