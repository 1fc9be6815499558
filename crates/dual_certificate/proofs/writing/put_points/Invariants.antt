use Rattle.std.proofs.Common.{◌≡◌, ◌++◌, take}
use Rattle.std.specs.List.{flat_map}
use Rattle.dual_certificate.specs.Text.{point_line}
use Rattle.dual_certificate.proofs.writing.put_points.Given as goal

abbrev pub invariant-loop-point : goal.invariant-loop-point
invariant-loop-point l = l.out.items ≡ l.fn.out.items ++ flat_map point_line (take l.point-index l.points)
