use Rattle.std.proofs.Common.{arith}
use Rattle.price_rounds.proofs.rounds.improve_prices.Goals as goal

pub returns-clause-last : goal.returns-clause-last
returns-clause-last g c = c.loop.invariant.last (omega (arith, c.most_rounds-end.ensures, c.loop-test.false))
