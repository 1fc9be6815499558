use Rattle.std.proofs.Common.{sym, subst, ℤ, inl, inr}
use Rattle.std.specs.Prelude.{◌≤ℤ◌}
use Rattle.costate_run.specs.declared.offers.Offer.{Offer}
use Rattle.costate_run.specs.Offers.{IsOffer}
use Rattle.costate_run.proofs.CertificateLemmas.{free_value}
use Rattle.costate_run.proofs.certificates.best_offer.Goals as goal

pub returns-clause-offer : goal.returns-clause-offer
returns-clause-offer c =
    let is : Offer → Type 0 = IsOffer c.args.rules.now c.args.share c.args.speeds.now c.args.ranges.now.low c.args.ranges.now.high in
    elim c.better.ensures.one [
      | inl e ↦ subst is (sym e) c.in_ok-searched.ensures
      | inr e ↦ subst is (sym e) c.in_ok-free.ensures.offer
    ]

pub returns-clause-free : goal.returns-clause-free
returns-clause-free c =
    let value = free_value c.args.rules.now c.args.share c.args.speeds.now c.args.ranges.now.low c.args.ranges.now.high c.in_ok-free.free c.in_ok-free.ensures.offer c.in_ok-free.ensures.free in
    subst (λ (b : ℤ). b ≤ℤ c.better.result.bound) value c.better.ensures.second
