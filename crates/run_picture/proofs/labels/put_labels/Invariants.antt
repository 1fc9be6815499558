use Rattle.std.proofs.Common.{◌≡◌, ◌++◌}
use Rattle.sheet_parts.specs.Fill.{joined_below}
use Rattle.run_picture.specs.Calls.{free_from, label_if}
use Rattle.run_picture.proofs.labels.put_labels.Given as goal

abbrev pub invariant-loop-j : goal.invariant-loop-j
invariant-loop-j l = record {
  room : l.free ≡ free_from l.axes l.rules l.calls l.j;
  text : l.out.items ≡ l.initial.out.items ++ joined_below (label_if l.axes l.rules l.speeds l.calls l.names) l.j;
}
