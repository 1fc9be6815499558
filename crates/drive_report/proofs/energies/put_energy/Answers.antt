use Rattle.std.proofs.Common.{arith, ◌≡◌, ◌∙◌, ap, to_z, of_z, codes}
use Rattle.std.proofs.lemmas.Int.{ints}
use mir.Syntax.{w128}
use Rattle.rail_base.specs.Texts.{number_line}
use Rattle.drive_report.specs.Report.{kilojoules_of}
use Rattle.drive_report.proofs.AppendLemmas.{appended_two}
use Rattle.drive_report.proofs.energies.put_energy.Goals as goal

pub returns : goal.returns
returns c =
    let e : to_z w128 (of_z w128 c.args.energy) ≡ c.args.energy = omega (arith, ints) in
    let k : to_z w128 (of_z w128 c.kilojoules.result) ≡ c.kilojoules.result = omega (arith, ints) in
    let j : c.kilojoules.result ≡ kilojoules_of c.args.energy = c.kilojoules.ensures ∙ ap kilojoules_of e in
    appended_two c.args.out.now.items c.put_number_line.new.out.items c.put_number_line-2.new.out.items (number_line (codes "energy") c.args.energy)
    (number_line (codes "kilojoules") (kilojoules_of c.args.energy)) (rw e at c.in_ok-put_number_line.ensures) (rw (k, j) at c.in_ok-put_number_line-2.ensures)
