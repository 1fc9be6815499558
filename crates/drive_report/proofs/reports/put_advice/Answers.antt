use Rattle.std.proofs.Common.{arith, ◌≡◌, length, to_z, of_z}
use Rattle.std.specs.List.{flat_map}
use Rattle.std.proofs.lemmas.Int.{ints}
use mir.Syntax.{w128}
use Rattle.drive_report.specs.Report.{head_line, gap_line, energy_lines, regained_lines, bound_line, count_lines, phase_lines, time_line, advice_text}
use Rattle.drive_report.proofs.AppendLemmas.{appended_eight}
use Rattle.drive_report.proofs.PassedLemmas.{bound_passed, eight_passed, energy_passed, gap_passed, head_passed}
use Rattle.drive_report.proofs.reports.put_advice.Goals as goal

pub returns-clause-text : goal.returns-clause-text
unfolding advice_text
returns-clause-text c =
    let r = c.args.rules.now in
    let speeds = c.args.speeds.now in
    let f = c.args.figures.now in
    let e : to_z w128 (of_z w128 f.energy) ≡ f.energy = omega (arith, ints) in
    let b : to_z w128 (of_z w128 f.bound) ≡ f.bound = omega (arith, ints) in
    appended_eight c.args.out.now.items c.put_head.new.out.items c.put_gap.new.out.items c.put_energy.new.out.items c.put_regained.new.out.items c.put_number_line.new.out.items
    c.put_counts.new.out.items c.put_phases.new.out.items c.put_times.new.out.items head_line (gap_line f.met) (energy_lines f.energy) (regained_lines r speeds f.regeneration) (bound_line f.bound)
    (count_lines f.counts) (phase_lines r speeds (length r.steps)) (flat_map (time_line r speeds) r.timings) c.in_ok-put_head.ensures c.in_ok-put_gap.ensures (rw e at c.in_ok-put_energy.ensures)
    c.in_ok-put_regained.ensures.text (rw b at c.in_ok-put_number_line.ensures) c.in_ok-put_counts.ensures.text c.in_ok-put_phases.ensures.text c.in_ok-put_times.ensures.text

pub returns-clause-passed : goal.returns-clause-passed
unfolding advice_text
returns-clause-passed c =
    let r = c.args.rules.now in
    let speeds = c.args.speeds.now in
    let f = c.args.figures.now in
    eight_passed head_line (gap_line f.met) (energy_lines f.energy) (regained_lines r speeds f.regeneration) (bound_line f.bound) (count_lines f.counts) (phase_lines r speeds (length r.steps))
    (flat_map (time_line r speeds) r.timings) head_passed (gap_passed f.met) (energy_passed f.energy (omega (arith, ints))) c.in_ok-put_regained.ensures.passed (bound_passed f.bound (omega (arith, ints)))
    c.in_ok-put_counts.ensures.passed c.in_ok-put_phases.ensures.passed c.in_ok-put_times.ensures.passed
