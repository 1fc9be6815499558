use Rattle.std.proofs.Common.{◌≡◌, map, take}
use Rattle.sheet_run.proofs.claims.speeds_of.Given as goal

abbrev pub invariant-loop-point : goal.invariant-loop-point
invariant-loop-point l = l.speeds ≡ map (λ p. p.speed) (take l.point-index l.fn.certificate.points)
