use Rattle.drive_rules.proofs.DriveLemmas.{moves_of_drive}
use Rattle.drive_rules.proofs.rules.Rules.arrival_from.Goals as goal

pub time_at-requires-clause-moving : goal.time_at-requires-clause-moving
time_at-requires-clause-moving c = moves_of_drive c.args.self.now c.args.speeds.now c.known.ensures c.requires.drive
