use Rattle.advice_run.proofs.SessionLemmas.{session_answered}
use Rattle.advice_run.proofs.session.joined_session.Goals as goal

pub returns-in_ok-text-in-Ok : goal.returns-in_ok-text-in-Ok
returns-in_ok-text-in-Ok g c =
    let w = c.args.asked.now in
    session_answered c.args.line.now c.args.train.now c.args.service.now c.args.events.now w.step w.splits w.tolerance c.args.steps.now c.start.new.steps
    c.session_text.new.steps c.in-Ok.session c.session_text.new.session c.in_ok-text-in-Ok.text.items (c.in-Ok.ensures.started, c.known.ensures.rules) c.in-Ok.ensures.counted
    (rw c.regeneration_of-regeneration.ensures at c.in_ok-text-in-Ok.ensures)
