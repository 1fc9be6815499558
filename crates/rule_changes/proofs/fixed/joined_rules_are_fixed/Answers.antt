use Rattle.rule_changes.proofs.JoinedOnce.{joined_once}
use Rattle.rule_changes.proofs.fixed.joined_rules_are_fixed.Goals as goal

pub returns : goal.returns
returns c = joined_once
