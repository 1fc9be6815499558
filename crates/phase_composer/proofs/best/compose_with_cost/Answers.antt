use Rattle.phase_composer.proofs.best.compose_with_cost.Goals as goal

pub returns-in-Some-first_late : goal.returns-in-Some-first_late
returns-in-Some-first_late g c =
    let found = rw c.in-Some.is at c.in_ok-greatest.ensures.some in
    let slower = rw c.speeds.ensures at c.in-Some-first_late.ensures.slower in
    record {
      greatest = (c.in-Some.greatest, found, rw c.speeds.ensures at c.in-Some-first_late.ensures.late, rw c.speeds.ensures at c.in-Some-first_late.ensures.arrival);
      none = λ d e t. slower d e (found.above d e) t;
    }
