use Rattle.std.proofs.Common.{arith}
use Rattle.advice_session.proofs.LatestLaws.{call_there}
use Rattle.advice_session.proofs.session.Session.latest.Goals as goal

pub set_latest-requires-clause-behind : goal.set_latest-requires-clause-behind
set_latest-requires-clause-behind g c =
    let t = call_there c.args.self.now.data_is c.args.place c.in-Some.j c.in-Some.ensures in
    omega (arith, t.1, t.2)
