use Rattle.command_files.proofs.StageLemmas.{fetched_ok}
use Rattle.command_files.proofs.stage.fetch.Goals as goal

pub returns-in-Ok-clause-fetched : goal.returns-in-Ok-clause-fetched
returns-in-Ok-clause-fetched g c =
    fetched_ok c.args.role.now c.args.most c.args.name.now (g.S.Shelf.contents c.args.shelf.now)
    (g.S.Shelf.faults c.args.shelf.now) (g.S.Shelf.faults c.fetch.new.self)
    c.in-Ok.bytes.items c.measured.result c.in-Ok.ensures.bytes c.measured.ensures
