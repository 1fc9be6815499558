use Rattle.std.proofs.Common.{rules}
use Rattle.drive_rules.proofs.KeptLemmas.{pulled}
use Rattle.drive_rules.proofs.rules.Rules.force_cost.Goals as goal

pub returns-else-not-is_pulled-clause-kept : goal.returns-else-not-is_pulled-clause-kept
returns-else-not-is_pulled-clause-kept g c = (pulled c.args.self.now c.args.i c.args.v0 c.args.v1 c.args.work c.requires.known (search rules) (search rules), search rules, search rules)
