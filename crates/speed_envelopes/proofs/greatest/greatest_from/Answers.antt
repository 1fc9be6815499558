use Rattle.speed_envelopes.proofs.Drives.{capped_at_most, above_at_most}
use Rattle.speed_envelopes.proofs.greatest.greatest_from.Goals as goal

pub lowered-requires-clause-capped : goal.lowered-requires-clause-capped
lowered-requires-clause-capped c =
    rw (c.in_ok-speeds.ensures, c.speeds.ensures) (capped_at_most c.args.rules.now c.args.narrow.now c.args.wider.now c.args.known.now c.known.ensures c.requires.known.drive)

pub lowered-requires-clause-above : goal.lowered-requires-clause-above
lowered-requires-clause-above c =
    rw (c.in_ok-speeds.ensures, c.speeds.ensures) (above_at_most c.args.rules.now c.args.narrow.now c.args.wider.now c.args.known.now c.requires.narrower c.requires.known)
