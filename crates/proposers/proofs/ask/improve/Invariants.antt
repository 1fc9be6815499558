use Rattle.std.proofs.Common.{map}
use Rattle.proposers.specs.States.{state}
use Rattle.proposers.proofs.Improving.{Improving}
use Rattle.proposers.proofs.ask.improve.Given as goal

abbrev pub invariant-loop-i : goal.invariant-loop-i
invariant-loop-i g l =
    let st = λ (b : _). (let m = goal.Proposer-dyn g (b.vtable, b.value) in state (m.offers b.value) (m.takes b.value) (m.begins b.value)) in
    Improving (g.C.StepCost.cost l.cost) l.rules (map st l.initial.boxes.items) (map st l.boxes.items) l.initial.best l.best l.i
