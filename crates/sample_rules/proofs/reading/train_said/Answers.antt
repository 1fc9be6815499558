use Rattle.std.proofs.Common.{◌∙◌, ap}
use Rattle.train_file.specs.TrainText.{train_of}
use Rattle.train_file.specs.declared.fault.TrainFault.TheVariants as fault
use Rattle.sample_rules.proofs.Answered.{never}
use Rattle.sample_rules.proofs.TrainSays.{sample_train, train-says}
use Rattle.sample_rules.proofs.reading.train_said.Goals as goal

pub unreachable-requires : goal.unreachable-requires
unreachable-requires c =
    never c.read_train.result (train_of c.args.text.now) fault.NoMemory c.in-Err.fault sample_train c.read_train.ensures.train c.in-Err.is
    c.in_default.not-NoMemory (ap train_of c.requires ∙ train-says)
