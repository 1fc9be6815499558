use Rattle.std.proofs.Common.{◌∙◌, arith}
use Rattle.std.proofs.lemmas.Int.{ints}
use Rattle.costate_run.proofs.CertificateLemmas.{certificate_for}
use Rattle.costate_run.proofs.certificates.certificate.Goals as goal

pub returns : goal.returns
returns g c =
    let chosen = c.args.chosen.now in
    let is = c.requires.chosen in
    let o = c.in_ok-best.best in
    let offer = c.in_ok-best.ensures.offer in
    certificate_for (g.C.StepCost.cost c.args.cost.now) c.args.share c.args.rules.now chosen o c.in_ok-ranges.ranges.low c.in_ok-ranges.ranges.high _
    c.known.ensures c.requires.covers is c.in_ok-ranges.ensures (rw c.speeds-speeds.ensures at offer) (rw c.speeds-speeds.ensures at c.in_ok-best.ensures.free)
    (record {
      energy = omega (arith, ints, is.small);
      bound = omega (arith, ints, offer.small);
      prices = c.in_ok-listed.ensures ∙ c.as_slice-2.ensures.value;
      speeds = c.in_ok-listed-2.ensures ∙ c.speeds-speeds.ensures;
      costates = c.in_ok-listed-3.ensures ∙ c.as_slice-3.ensures.value;
    })
    (rw c.speeds-speeds.ensures at c.known_drive.ensures.slow)
