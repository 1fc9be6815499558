use Rattle.std.proofs.Common.{arith}
use Rattle.std.proofs.lemmas.List.FromFn.{length-map-range_with_len}
use Rattle.proposers.proofs.early_braking.EarlyBrakingProposer.begin.Goals as goal

pub returns-clause-few : goal.returns-clause-few
returns-clause-few c = rw (length-map-range_with_len _ 0 _) (omega (arith, c.offers_before-self.ensures))
