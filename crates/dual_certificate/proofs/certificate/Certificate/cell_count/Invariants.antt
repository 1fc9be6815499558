use Rattle.std.proofs.Common.{◌≡◌, take}
use Rattle.dual_certificate.specs.Text.{cells_in}
use Rattle.dual_certificate.proofs.certificate.Certificate.cell_count.Given as goal

abbrev pub invariant-loop-point : goal.invariant-loop-point
invariant-loop-point l = l.count ≡ cells_in (take l.point-index l.points)
