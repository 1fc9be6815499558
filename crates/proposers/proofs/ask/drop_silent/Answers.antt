use Rattle.std.proofs.Common.{rules, not}
use Rattle.std.proofs.lemmas.Fn.{filter_same}
use Rattle.proposers.specs.States.{is_silent}
use Rattle.proposers.proofs.Lists.{map-filtered}
use Rattle.proposers.proofs.ask.drop_silent.Goals as goal

pub returns : goal.returns
returns g c =
    map-filtered _ (λ s. not (is_silent s)) _ _ (filter_same _ _ _ (λ x b f2 k. search (rules, k.called)) _ _ c.retain.ensures.filtered)
