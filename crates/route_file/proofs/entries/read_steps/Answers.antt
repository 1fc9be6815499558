use Rattle.std.proofs.Common.{rules, ◌≡◌, ◌∷◌, ap, sym, ◌∙◌, arith, length, length-append, ◌+◌}
use Rattle.std.proofs.lemmas.Grind.{common_steps}
use Rattle.route_file.proofs.RouteCounts.{row_counts-step, counts}
use Rattle.route_file.proofs.entries.read_steps.Goals as goal

pub loop-line-preserved : goal.loop-line-preserved
loop-line-preserved g c =
    let step = c.in_ok-append-in-Step.ensures.step in
    let more : length c.append.new.lists.rows.items ≡ length c.loop-line.lists.rows.items + 1 = ap length step.rows ∙ length-append c.loop-line.lists.rows.items _ in
    record {
      next = search rules;
      faults = search rules;
      read = grind (arith, common_steps);
      number = search rules;
      few = search rules;
      end = omega (arith, more, c.in_ok-append-in-Step.ensures.short, c.loop-line.invariant.end);
      counted = search rules;
      made = search (rules, row_counts-step, more);
    }
