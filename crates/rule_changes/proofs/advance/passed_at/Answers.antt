use Rattle.rule_changes.proofs.AdvanceLists.{stays_ahead}
use Rattle.rule_changes.proofs.advance.passed_at.Goals as goal

pub returns-else-timings-count : goal.returns-else-timings-count
returns-else-timings-count c = record {
  most = c.loop-count.invariant.0;
  passed = c.loop-count.invariant.1;
  ahead = λ h m l. stays_ahead c.args.timings.now c.args.k c.loop-count.count h c.requires m l c.if-timings-count.false;
}
