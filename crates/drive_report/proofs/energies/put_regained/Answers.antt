use Rattle.std.proofs.Common.{arith, ℤ, ◌≡◌, ◌∙◌, ◌++◌, ap, pos, to_z, of_z, codes}
use Rattle.std.proofs.lemmas.Int.{ints}
use mir.Syntax.{w128}
use Rattle.rail_base.specs.Texts.{number_line}
use Rattle.rail_specs.specs.Cost.{cost_of, traction_cost}
use Rattle.drive_report.proofs.AppendLemmas.{appended_two}
use Rattle.drive_report.proofs.PassedLemmas.{regained_passed}
use Rattle.drive_report.proofs.energies.put_regained.Goals as goal

pub returns-in_ok-put_number_line-2-clause-text : goal.returns-in_ok-put_number_line-2-clause-text
returns-in_ok-put_number_line-2-clause-text c =
    let r = c.args.rules.now in
    let speeds = c.args.speeds.now in
    let t : to_z w128 (of_z w128 c.traction_energy.result) ≡ c.traction_energy.result = omega (arith, ints, c.traction_energy.ensures.small) in
    let n : to_z w128 c.in-Some.share ≡ pos c.in-Some.share = omega (arith, ints) in
    let is = appended_two c.args.out.now.items c.put_number_line.new.out.items c.put_number_line-in-Some.new.out.items (number_line (codes "regeneration") (pos c.in-Some.share))
    (number_line (codes "traction") (cost_of traction_cost r speeds)) (rw n at c.in_ok-put_number_line.ensures)
    (c.in_ok-put_number_line-2.ensures ∙ ap (λ (z : ℤ). c.put_number_line.new.out.items ++ number_line (codes "traction") z) (t ∙ c.traction_energy.ensures.value)) in
    rw c.in-Some.is is

pub returns-in_ok-put_number_line-2-clause-passed : goal.returns-in_ok-put_number_line-2-clause-passed
returns-in_ok-put_number_line-2-clause-passed c =
    rw c.in-Some.is (regained_passed c.in-Some.share (cost_of traction_cost c.args.rules.now c.args.speeds.now) (omega (arith, ints)) (omega (arith, ints, c.traction_energy.ensures.value, c.traction_energy.ensures.small)))
