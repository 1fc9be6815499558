use Rattle.drive_report.proofs.PassedLemmas.{begun_passed, part_behind}
use Rattle.drive_report.proofs.reports.report.Goals as goal

pub returns-clause-part : goal.returns-clause-part
returns-clause-part c =
    part_behind c.put_certificate.new.out.items c.put_advice.new.out.items c.args.certificate.now c.in_ok-put_certificate.ensures
    (begun_passed c.new-out.result.items c.put_advice.new.out.items _ c.new-out.ensures.items c.in_ok-put_advice.ensures.text c.in_ok-put_advice.ensures.passed)
