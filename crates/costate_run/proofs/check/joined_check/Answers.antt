use Rattle.costate_run.proofs.check.joined_check.Goals as goal

pub report_answer-requires : goal.report_answer-requires
report_answer-requires g c = c.costs_cover_work.ensures.regained c.args.train.now.regeneration
