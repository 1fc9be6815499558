use Rattle.std.proofs.Common.{arith}
use Rattle.std.proofs.lemmas.Int.{ints}
use Rattle.drive_report.proofs.PassedLemmas.{time_passed}
use Rattle.drive_report.proofs.reports.put_time.Goals as goal

pub returns-clause-passed : goal.returns-clause-passed
returns-clause-passed c =
    time_passed c.args.rules.now c.args.speeds.now c.args.at (omega (arith, c.place.ensures.value, c.place.ensures.far)) (omega (arith, c.requires.arrival, c.ranges.arrival.fits)) (omega (arith, ints))
