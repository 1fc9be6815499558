use Rattle.std.proofs.Common.{arith}
use Rattle.drive_rules.proofs.DriveLemmas.{moves_of_drive, top_of_drive}
use Rattle.drive_rules.proofs.rules.Rules.known_drive.Goals as goal

pub returns-clause-top : goal.returns-clause-top
returns-clause-top c = top_of_drive c.args.self.now c.args.speeds.now c.known.ensures c.requires

pub returns-clause-slow : goal.returns-clause-slow
returns-clause-slow c = λ k. omega (arith, c.known.ensures.top, top_of_drive c.args.self.now c.args.speeds.now c.known.ensures c.requires k)

pub returns-clause-moves : goal.returns-clause-moves
returns-clause-moves c = moves_of_drive c.args.self.now c.args.speeds.now c.known.ensures c.requires
