use Rattle.std.proofs.Common.{◌≡◌, None}
use Rattle.rail_base.specs.First.{first_below}
use Rattle.link_costs.specs.Soundness.{pricing_of}
use Rattle.certificate_checker.specs.Refusals.{links_from}
use Rattle.certificate_checker.proofs.links.broken_over.Given as goal

abbrev pub invariant-loop-a : goal.invariant-loop-a
invariant-loop-a g l = first_below (links_from (pricing_of g.C.StepCost.cost l.links.priced) l.k l.point l.next) l.a ≡ None
