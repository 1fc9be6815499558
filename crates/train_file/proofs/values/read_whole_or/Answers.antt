use Rattle.toml.proofs.Views.{table_get}
use Rattle.train_file.proofs.values.read_whole_or.Goals as goal

pub returns-in-None-clause-value : goal.returns-in-None-clause-value
returns-in-None-clause-value c =
    let found = table_get c.get.result c.args.name.now c.args.table.now.entries c.get.ensures.value in
    rw (← rw c.in-None.is at found)

pub returns-in-Some-clause-value : goal.returns-in-Some-clause-value
returns-in-Some-clause-value c =
    let found = table_get c.get.result c.args.name.now c.args.table.now.entries c.get.ensures.value in
    rw (← rw c.in-Some.is at found) c.whole_of.ensures.value
