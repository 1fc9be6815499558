use Rattle.cell_splitting.proofs.SplitLemmas.{keep_fit, lie_inside, follow, count_more}
use Rattle.cell_splitting.proofs.laws.splits_known.Goals as goal

pub returns-clause-fit : goal.returns-clause-fit
returns-clause-fit c = λ r whole cells h. keep_fit r whole h

pub returns-clause-inside : goal.returns-clause-inside
returns-clause-inside c = lie_inside

pub returns-clause-again : goal.returns-clause-again
returns-clause-again c = λ whole cells next a b. follow whole a b

pub returns-clause-more : goal.returns-clause-more
returns-clause-more c = λ whole cells h. count_more whole h
