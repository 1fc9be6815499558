use Rattle.std.proofs.Common.{arith}
use Rattle.std.proofs.lemmas.Int.{ints}
use Rattle.drive_report.proofs.PassedLemmas.{counts_passed}
use Rattle.drive_report.proofs.reports.put_counts.Goals as goal

pub returns-in_ok-put_number_line-2-clause-passed : goal.returns-in_ok-put_number_line-2-clause-passed
returns-in_ok-put_number_line-2-clause-passed c =
    rw c.in-Some.is (counts_passed c.in-Some.counts.cells c.in-Some.counts.splits (omega (arith, ints)) (omega (arith, ints)))
