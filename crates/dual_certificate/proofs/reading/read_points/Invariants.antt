use Rattle.std.proofs.Common.{◌≡◌, ◌-◌, ◌+◌}
use Rattle.dual_certificate.specs.Grammar.{points_at}
use Rattle.dual_certificate.proofs.PointLists.{points_before}
use Rattle.dual_certificate.proofs.reading.read_points.Given as goal

abbrev pub invariant-loop-i : goal.invariant-loop-i
invariant-loop-i l = points_before l.points (points_at (l.count - l.i) (6 + l.i) l.room l.text) ≡ points_at l.count 6 54001 l.fn.text
