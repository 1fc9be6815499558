use Rattle.speed_cells.proofs.Covering.{fitting_cover}
use Rattle.speed_cells.proofs.laws.fitting_cells_cover.Goals as goal

pub returns : goal.returns
returns c = fitting_cover
