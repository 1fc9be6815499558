use Rattle.std.proofs.Common.{subst}
use Rattle.rail_specs.specs.Ranges.{AreRanges}
use Rattle.rail_specs.specs.declared.Narrow.{Narrow}
use Rattle.costate_checker.specs.Refusals.{Refuses}
use Rattle.costate_checker.proofs.HoldLemmas.{refusal_same, ok_any}
use Rattle.costate_checker.proofs.checking.first_broken.Goals as goal

pub returns-in-Some-2-clause-late : goal.returns-in-Some-2-clause-late
returns-in-Some-2-clause-late g c = λ early least greatest h.
    let r = c.args.rules.now in
    let low = c.in-Some-2.ranges.low in
    let high = c.in-Some-2.ranges.high in
    let found = rw c.in-Some-2.is at c.in_ok-ranges.ensures.some in
    let exact = subst (λ (n : Narrow). AreRanges r n low high) c.none.ensures found in
    subst (Refuses c.check_bound.result) (refusal_same r c.args.share c.args.certificate.now low high least greatest exact h) c.check_bound.ensures.refuses

pub returns-in-Some-2-clause-ranges : goal.returns-in-Some-2-clause-ranges
returns-in-Some-2-clause-ranges g c =
    let found = rw c.in-Some-2.is at c.in_ok-ranges.ensures.some in
    let exact = subst (λ (n : Narrow). AreRanges c.args.rules.now n c.in-Some-2.ranges.low c.in-Some-2.ranges.high) c.none.ensures found in
    ok_any c.check_bound.result (c.in-Some-2.ranges.low, c.in-Some-2.ranges.high, exact)
