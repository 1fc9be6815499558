use Rattle.std.proofs.Common.{◌≡◌, arith, subst, sym, to_z, of_z}
use Rattle.dual_certificate.specs.Part.{IsPassed}
use Rattle.std.specs.Int.{w128}
use Rattle.std.proofs.lemmas.Int.{ints}
use Rattle.costate_run.proofs.AnswerLemmas.{drive_answer}
use Rattle.costate_run.proofs.rules.report_answer.Goals as goal
use Rattle.costate_run.proofs.rules.report_answer.Goals.{then-figures, else-figures}

pub returns : goal.returns
returns g c =
    let d = c.args.certificate.now in
    let is = c.requires.certificate in
    let energy : to_z w128 (of_z w128 d.energy) ≡ d.energy = omega (arith, ints, is.in_range.energy) in
    let bound : to_z w128 (of_z w128 d.bound) ≡ d.bound = omega (arith, ints, is.in_range.bound) in
    drive_answer (g.C.StepCost.cost c.args.cost.now) c.args.share c.args.rules.now c.args.tolerance c.args.regeneration c.if-figures.status c.put_costate_certificate.new.out.items
    c.put_advice.new.out.items d c.is_gap_met.result is (rw (energy, bound) at c.is_gap_met.ensures)
    (elim c.if-figures.branch [ then-figures w ↦ cc | else-figures w ↦ cc ])
    (rw (c.new-text.ensures.items, c.items.ensures, energy, bound) at c.in_ok-put_advice.ensures.text) (subst IsPassed (sym (rw (c.new-text.ensures.items, c.items.ensures, energy, bound) at c.in_ok-put_advice.ensures.text)) (rw (c.items.ensures, energy, bound) at c.in_ok-put_advice.ensures.passed)) c.in_ok-put_costate_certificate.ensures
