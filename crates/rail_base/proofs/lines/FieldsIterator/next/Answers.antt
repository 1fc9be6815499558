use Rattle.std.proofs.Common.{sym, length, ap, rules, arith}
use Rattle.rail_base.specs.Fields.{fields_left}
use Rattle.rail_base.proofs.FieldLemmas.{first_field, one_field}
use Rattle.rail_base.proofs.lines.FieldsIterator.next.Goals as goal

pub returns-in-Some-clause-steps : goal.returns-in-Some-clause-steps
returns-in-Some-clause-steps c =
    let rest = c.in_ok-rest.rest.now in
    cc (ap fields_left c.in_ok-rest.was, first_field rest c.in-Some.end (sym c.in-Some.ensures))

pub returns-in-None-clause-steps : goal.returns-in-None-clause-steps
returns-in-None-clause-steps c = cc (ap fields_left c.in_ok-rest.was, one_field c.in_ok-rest.rest.now (sym c.in-None.ensures))

pub returns-in-Some-clause-goes : goal.returns-in-Some-clause-goes
returns-in-Some-clause-goes c =
    let steps = returns-in-Some-clause-steps c in
    record { on = λ _. (search rules, search rules, omega (arith, ap length steps)); keeps = search rules; rests = search rules }

pub returns-in-None-clause-goes : goal.returns-in-None-clause-goes
returns-in-None-clause-goes c =
    let steps = returns-in-None-clause-steps c in
    record { on = λ _. (search rules, search rules, omega (arith, ap length steps)); keeps = search rules; rests = search rules }
