use Rattle.distance_grid.proofs.Places.{HasMore, IsMark}
use Rattle.distance_grid.proofs.grid.push_marks.Given as goal

abbrev pub invariant-loop-mark : goal.invariant-loop-mark
invariant-loop-mark l = HasMore l.places.items l.fn.places.items (IsMark l.marks l.from l.to l.mark-index)
