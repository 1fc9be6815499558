use Rattle.relaxed_costs.proofs.RelaxedLemmas.{start_cell, value_below, value_bounds}
use Rattle.relaxed_costs.proofs.SingleLemmas.{value_single}
use Rattle.relaxed_costs.proofs.laws.relaxed_costs_known.Goals as goal

pub returns-clause-start : goal.returns-clause-start
returns-clause-start c = λ cells fit. start_cell c.args.rules.now cells fit

pub returns-clause-below : goal.returns-clause-below
returns-clause-below c = λ cost cells v d grows within timings fit is drive.
    value_below (record { cost = cost; rules = c.args.rules.now; prices = c.args.prices.now }) cells v d
    (record { grows = grows; within = within; shaped = c.known.ensures; prices = c.known-2.ensures.prices; timings = timings })
    c.known-2.ensures.by_parts_of_steps fit is drive

pub returns-clause-single : goal.returns-clause-single
returns-clause-single c = λ cost cells v grows within timings fit one is.
    value_single (record { cost = cost; rules = c.args.rules.now; prices = c.args.prices.now }) cells v
    (record { grows = grows; within = within; shaped = c.known.ensures; prices = c.known-2.ensures.prices; timings = timings })
    c.known-2.ensures.by_parts_of_steps fit one is

pub returns-clause-bounds : goal.returns-clause-bounds
returns-clause-bounds c = λ cost cells v grows within timings fit is.
    value_bounds (record { cost = cost; rules = c.args.rules.now; prices = c.args.prices.now }) cells v
    (record { grows = grows; within = within; shaped = c.known.ensures; prices = c.known-2.ensures.prices; timings = timings })
    c.known-2.ensures.by_parts_of_steps fit is
