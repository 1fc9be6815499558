use Rattle.std.proofs.Common.{◌≡◌, length}
use Rattle.rail_specs.specs.Cost.{cost_of}
use Rattle.proposers.specs.States.{state}
use Rattle.proposers.proofs.Asking.{Asked}
use Rattle.proposers.proofs.ask.ask_all.Given as goal

abbrev pub invariant-loop-offer : goal.invariant-loop-offer
invariant-loop-offer g l =
    let a = goal.Proposer-dyn g l.initial.proposer.now in
    let b = goal.Proposer-dyn g l.proposer.now in
    let p = l.initial.proposer.now.1 in
    let q = l.proposer.now.1 in
    record {
      asked : Asked (g.C.StepCost.cost l.cost) l.rules (state (a.offers p) (a.takes p) (a.begins p)) (state (b.offers q) (b.takes q) (b.begins q)) l.initial.best l.best l.count;
      least : l.least ≡ cost_of (g.C.StepCost.cost l.cost) l.rules l.best;
    }

abbrev pub decreases-loop-offer : goal.decreases-loop-offer
decreases-loop-offer g l = length ((goal.Proposer-dyn g l.proposer.now).offers l.proposer.now.1)
