use Rattle.std.proofs.Common.{arith}
use Rattle.drive_report.specs.Report.{ends_run}
use Rattle.drive_report.proofs.RunLemmas.{begun_goes_on, run_goes_on, phase_lines_more}
use Rattle.drive_report.proofs.PassedLemmas.{more_phases_passed}
use Rattle.drive_report.proofs.reports.put_phases.Goals as goal

pub loop-i-preserved : goal.loop-i-preserved
loop-i-preserved c =
    let r = c.args.rules.now in
    let speeds = c.args.speeds.now in
    let start = c.loop-i.invariant.start (omega arith) in
    record {
      begun = begun_goes_on (ends_run r speeds c.loop-i.i) c.in_ok-from.from c.loop-i.from c.loop-i.i
          c.loop-i.invariant.begun c.in_ok-from.ensures.next;
      start = run_goes_on r speeds c.loop-i.i c.loop-i.from c.in_ok-from.from start c.in_ok-from.ensures.next;
      text = phase_lines_more r speeds c.loop-i.out.items c.put_run.new.out.items c.loop-i.i c.loop-i.from c.args.out.now.items
          start c.loop-i.invariant.text c.in_ok-from.ensures.text;
      passed = more_phases_passed r speeds c.loop-i.i c.loop-i.from start c.loop-i.invariant.passed c.in_ok-from.ensures.passed;
    }
