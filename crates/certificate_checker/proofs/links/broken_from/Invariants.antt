use Rattle.std.proofs.Common.{◌≡◌, ◌≤◌, ◌-◌, None}
use Rattle.rail_base.specs.First.{first_below}
use Rattle.link_costs.specs.Soundness.{pricing_of}
use Rattle.certificate_checker.specs.Refusals.{link_refusal}
use Rattle.certificate_checker.proofs.links.broken_from.Given as goal

-- no link fails up to this cell, which isn't before the window
abbrev pub invariant-loop-b : goal.invariant-loop-b
invariant-loop-b g l = record {
  from : l.window.from ≤ l.b;
  none : first_below (link_refusal (pricing_of g.C.StepCost.cost l.links.priced) l.k l.a l.cell l.potential l.next) l.b ≡ None;
}

abbrev pub decreases-loop-b : goal.decreases-loop-b
decreases-loop-b g l = l.window.to - l.b
