use Rattle.time_multipliers.proofs.PriceLemmas.{sums_by_parts, steps_sum_by_parts}
use Rattle.time_multipliers.proofs.prices.Prices.known.Goals as goal

pub returns-clause-by_parts : goal.returns-clause-by_parts
returns-clause-by_parts c = sums_by_parts c.args.self.now

pub returns-clause-by_parts_of_steps : goal.returns-clause-by_parts_of_steps
returns-clause-by_parts_of_steps c = steps_sum_by_parts c.args.self.now
