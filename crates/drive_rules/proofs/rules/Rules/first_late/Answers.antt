use Rattle.std.proofs.lemmas.Option.{IfSome_then}
use Rattle.drive_rules.proofs.DriveLemmas.{moves_of_drive}
use Rattle.drive_rules.proofs.LateLemmas.{slower_is_late}
use Rattle.drive_rules.proofs.rules.Rules.first_late.Goals as goal

pub late_at-requires-clause-moving : goal.late_at-requires-clause-moving
late_at-requires-clause-moving c = moves_of_drive c.args.self.now c.args.speeds.now c.known.ensures c.requires

pub returns-clause-slower : goal.returns-clause-slower
returns-clause-slower c =
    IfSome_then c.late_at.result c.late_at.ensures.late
    (λ at late d e slow on. slower_is_late c.args.self.now d c.args.speeds.now at.timing c.times_fall.ensures.upper c.known.ensures e slow late on)
