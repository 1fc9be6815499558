use Rattle.std.proofs.Common.{arith, ◌+◌}
use Rattle.drive_report.proofs.PassedLemmas.{phase_passed}
use Rattle.drive_report.proofs.reports.put_phase.Goals as goal

pub returns-clause-passed : goal.returns-clause-passed
returns-clause-passed c =
    phase_passed c.args.rules.now c.args.speeds.now c.args.from c.args.i (omega (arith, c.place.ensures.value, c.place.ensures.far)) (omega (arith, c.place-2.ensures.value, c.place-2.ensures.far))
    (omega (arith, c.known_drive.ensures.slow c.args.from)) (omega (arith, c.known_drive.ensures.slow (c.args.i + 1)))
