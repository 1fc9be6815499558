use Rattle.std.proofs.Common.{arith, pos, negsuc}
use Rattle.joined_rules.proofs.JoinedSteps.{steps_are, value_low, value_high}
use Rattle.joined_rules.proofs.course.course_over.Goals as goal

pub rows_of_steps-requires-clause-down : goal.rows_of_steps-requires-clause-down
rows_of_steps-requires-clause-down g c =
    let h = rw c.items.ensures at c.in_ok-gradients.ensures in
    rw c.deref.ensures.value (λ i l. value_low (negsuc 999) (pos 1000) c.args.line.now.gradients c.requires.line.gradients _ _ _ (h.each i l))

pub rows_of_steps-requires-clause-up : goal.rows_of_steps-requires-clause-up
rows_of_steps-requires-clause-up g c =
    let h = rw c.items.ensures at c.in_ok-gradients.ensures in
    rw c.deref.ensures.value (λ i l. value_high (negsuc 999) (pos 1000) c.args.line.now.gradients c.requires.line.gradients _ _ _ (h.each i l))

pub returns-clause-made : goal.returns-clause-made
returns-clause-made g c =
    let line = c.args.line.now in
    let places = c.args.places.now in
    let rising = c.requires.limits.rising in
    let a = rw c.items.ensures at c.in_ok-gradients.ensures in
    let r = rw c.deref.ensures.value at c.in_ok-rows.ensures.rows in
    let w = rw (c.items-2.ensures, c.items-3.ensures) at c.in_ok-limits.ensures in
    record {
      count = omega (arith, r.count, a.count);
      each_step = steps_are c.args.train.now line.gradients places c.in_ok-gradients.gradients.items c.in_ok-rows.rows.items rising a r;
      light = r.light;
      limits_count = omega (arith, r.count, a.count, w.count);
      each_limit = w.each;
    }
