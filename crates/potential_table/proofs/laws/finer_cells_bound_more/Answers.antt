use Rattle.potential_table.proofs.ChainLemmas.{finer_value}
use Rattle.potential_table.proofs.laws.finer_cells_bound_more.Goals as goal

pub returns : goal.returns
returns c cost p coarse fine v w grows within prices timings finer is_v is_w =
    finer_value (record { cost = cost; rules = c.args.rules.now; prices = p })
    (record { grows = grows; within = within; shaped = c.known.ensures; prices = prices; timings = timings }) coarse fine v w finer is_v is_w
