use Rattle.rule_changes.proofs.LatestRoom.{has_room}
use Rattle.rule_changes.proofs.latest.room_for_latest.Goals as goal

pub returns : goal.returns
returns c = has_room
