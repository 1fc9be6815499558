use Rattle.speed_cells.proofs.Fitting.{pairs_ordered, whole_fit}
use Rattle.speed_cells.proofs.laws.whole_cells_fit.Goals as goal

pub returns : goal.returns
returns c = record { ordered = pairs_ordered; fit = whole_fit }
