use Rattle.speed_envelopes.proofs.Times.{faster_is_sooner, faster_is_on_time, greatest_is_on_time}
use Rattle.speed_envelopes.proofs.closure.faster_is_on_time.Goals as goal

pub returns : goal.returns
returns c = record { sooner = faster_is_sooner; on_time = faster_is_on_time; greatest = greatest_is_on_time }
