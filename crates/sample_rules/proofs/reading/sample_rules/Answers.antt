use Rattle.sample_rules.proofs.Whole.{sample_is}
use Rattle.sample_rules.proofs.reading.sample_rules.Goals as goal

pub returns-clause-rules : goal.returns-clause-rules
returns-clause-rules g c =
    sample_is c.args.n 100 c.in_ok-line.line c.in_ok-train.train c.in_ok-service.service c.joined.result c.in_ok-line.ensures.said c.in_ok-train.ensures.said
    c.in_ok-service.ensures.said c.joined.ensures.rules
