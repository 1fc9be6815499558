use Rattle.costate_run.proofs.certificates.ranges_of.Goals as goal

pub returns : goal.returns
returns c = rw c.none.ensures at (rw c.in-Some.is at c.in_ok-found.ensures.some)
