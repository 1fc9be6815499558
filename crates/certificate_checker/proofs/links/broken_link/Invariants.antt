use Rattle.std.proofs.Common.{◌≡◌, None}
use Rattle.rail_base.specs.First.{first_below}
use Rattle.certificate_checker.specs.Refusals.{links_over}
use Rattle.certificate_checker.proofs.links.broken_link.Given as goal

abbrev pub invariant-loop-k : goal.invariant-loop-k
invariant-loop-k g l = first_below (links_over (record { cost = g.C.StepCost.cost l.cost; rules = l.rules; prices = l.prices }) l.points) l.k ≡ None
