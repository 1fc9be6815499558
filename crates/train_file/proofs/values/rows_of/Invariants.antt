use Rattle.std.proofs.Common.{◌≡◌, drop}
use Rattle.train_file.specs.TrainText.{rows_of}
use Rattle.train_file.proofs.Reading.{rows_before}
use Rattle.train_file.proofs.values.rows_of.Given as goal

abbrev pub invariant-loop-pair : goal.invariant-loop-pair
invariant-loop-pair l = rows_of l.key l.pairs ≡ rows_before l.rows.items (rows_of l.key (drop l.pair-index l.pairs))
