use Rattle.speed_envelopes.proofs.Drives.{greatest_plain, none_plain, if_found, if_none}
use Rattle.speed_envelopes.proofs.greatest.greatest_drive.Goals as goal

pub returns-clause-some : goal.returns-clause-some
returns-clause-some c = if_found c.greatest_under.result _ _ (λ v g. greatest_plain c.args.rules.now v c.known.ensures (rw c.none.ensures at g)) c.greatest_under.ensures.some

pub returns-clause-none : goal.returns-clause-none
returns-clause-none c = if_none c.greatest_under.result _ _ (λ h. none_plain c.args.rules.now c.known.ensures (rw c.none.ensures at h)) c.greatest_under.ensures.none
