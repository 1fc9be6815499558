use Rattle.std.proofs.Common.{subst}
use Rattle.rail_specs.specs.Ranges.{AreRanges}
use Rattle.rail_specs.specs.declared.Narrow.{Narrow}
use Rattle.certificate_checker.specs.Refusals.{Refuses}
use Rattle.certificate_checker.proofs.LateLemmas.{late_same, ok_any}
use Rattle.certificate_checker.proofs.checking.first_broken.Goals as goal

pub returns-in-Some-3-clause-late : goal.returns-in-Some-3-clause-late
returns-in-Some-3-clause-late g c = λ early least greatest h.
    let cost = g.C.StepCost.cost c.args.cost.now in
    let r = c.args.rules.now in
    let low = c.in-Some-3.ranges.low in
    let high = c.in-Some-3.ranges.high in
    let found = rw c.in-Some-3.is at c.in_ok-ranges.ensures.some in
    let exact = subst (λ (n : Narrow). AreRanges r n low high) c.none.ensures found in
    subst (Refuses c.check_late.result) (late_same cost r c.args.certificate.now low high least greatest exact h) c.check_late.ensures

pub returns-in-Some-3-clause-ranges : goal.returns-in-Some-3-clause-ranges
returns-in-Some-3-clause-ranges g c =
    let found = rw c.in-Some-3.is at c.in_ok-ranges.ensures.some in
    let exact = subst (λ (n : Narrow). AreRanges c.args.rules.now n c.in-Some-3.ranges.low c.in-Some-3.ranges.high) c.none.ensures found in
    ok_any c.check_late.result (c.in-Some-3.ranges.low, c.in-Some-3.ranges.high, exact)
