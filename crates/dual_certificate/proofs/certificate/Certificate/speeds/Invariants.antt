use Rattle.std.proofs.Common.{◌≡◌, map, take}
use Rattle.dual_certificate.proofs.certificate.Certificate.speeds.Given as goal

abbrev pub invariant-loop-point : goal.invariant-loop-point
invariant-loop-point l = l.speeds.items ≡ map (λ p. p.speed) (take l.point-index l.fn.self.points)
