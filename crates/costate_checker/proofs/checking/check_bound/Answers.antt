use Rattle.std.proofs.Common.{◌≡◌, sym, subst, arith, ℤ}
use Rattle.std.proofs.lemmas.Int.{ints}
use Rattle.rail_specs.specs.Cost.{IsBound}
use Rattle.costate_checker.proofs.checking.check_bound.Goals as goal

pub returns-then-certificate-bound-clause-bounds : goal.returns-then-certificate-bound-clause-bounds
returns-then-certificate-bound-clause-bounds c = λ cost covers.
    let e : c.args.certificate.now.bound ≡ c.own_bound-bound.result = omega (arith, ints, c.if-certificate-bound.true, c.requires.certificate.bound, c.own_bound-bound.ensures.small) in
    subst (λ (b : ℤ). IsBound cost c.args.rules.now b) (sym e) (c.own_bound-bound.ensures.bounds cost covers)
