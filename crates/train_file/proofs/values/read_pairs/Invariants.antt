use Rattle.std.proofs.Common.{◌≡◌, drop}
use Rattle.toml.specs.View.{items_view}
use Rattle.train_file.specs.TrainText.{pairs_of}
use Rattle.train_file.proofs.Reading.{before}
use Rattle.train_file.proofs.values.read_pairs.Given as goal

abbrev pub invariant-loop-value : goal.invariant-loop-value
invariant-loop-value l = pairs_of (items_view l.fn.array.items) ≡ before l.pairs.items (pairs_of (items_view (drop l.value-index l.fn.array.items)))
