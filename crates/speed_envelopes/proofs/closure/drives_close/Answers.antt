use Rattle.speed_envelopes.proofs.Laws.{greater_is_drive, lesser_is_drive, greater_is_narrow_drive, lesser_is_narrow_drive}
use Rattle.speed_envelopes.proofs.closure.drives_close.Goals as goal

pub returns : goal.returns
returns c = record { greater = greater_is_drive; lesser = lesser_is_drive; narrow_greater = greater_is_narrow_drive; narrow_lesser = lesser_is_narrow_drive }
