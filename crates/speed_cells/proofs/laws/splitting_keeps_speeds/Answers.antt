use Rattle.speed_cells.proofs.Halves.{split_adjacent, split_run}
use Rattle.speed_cells.proofs.Fitting.{split_fit}
use Rattle.speed_cells.proofs.laws.splitting_keeps_speeds.Goals as goal

pub returns : goal.returns
returns c = record { adjacent = split_adjacent; run = split_run; fit = split_fit }
