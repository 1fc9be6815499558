use Rattle.speed_envelopes.proofs.Drives.{wider_drive, narrow_drive, greatest_plain, plain_greatest, none_plain, plain_none}
use Rattle.speed_envelopes.proofs.closure.narrowings_nest.Goals as goal

pub returns : goal.returns
returns c = record {
  nest = wider_drive;
  drive = narrow_drive;
  greatest = λ r d s. (plain_greatest r d s, greatest_plain r d s);
  no_drive = λ r s. (plain_none r, none_plain r s);
}
