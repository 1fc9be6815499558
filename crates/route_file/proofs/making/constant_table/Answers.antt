use Rattle.route_file.proofs.RouteRules.{table-constant}
use Rattle.route_file.proofs.making.constant_table.Goals as goal

pub returns-in-Ok : goal.returns-in-Ok
returns-in-Ok c = table-constant c.args.top c.args.force c.in-Ok.table c.requires.some c.in-Ok.ensures.table
