use Rattle.std.proofs.Common.{◌≡◌, arith, length, refl, sym}
use Rattle.std.proofs.lemmas.List.{get_or_read_under}
use Rattle.event_file.specs.declared.event.Event.TheVariants.{Advise}
use Rattle.advice_run.specs.Session.{IsAdvice, event_at}
use Rattle.advice_run.proofs.SessionLemmas.{one_more}
use Rattle.advice_run.proofs.session.session_text.Goals as goal

pub loop-i-preserved : goal.loop-i-preserved
loop-i-preserved g c =
    let taken = c.in_ok-take_event.ensures in
    let here : event_at c.args.events.now c.loop-i.i ≡ c.index-events-i.result =
    sym (get_or_read_under c.args.events.now c.loop-i.i (length c.args.events.now) c.index-events-i.result Advise c.index-events-i.is
    (omega (arith, c.loop-i-test.true, c.loop-i.auto.i-end)) refl) in
    one_more (IsAdvice (g.C.StepCost.cost c.args.cost.now) c.args.options.splits c.args.options.tolerance c.args.regeneration) c.args.session.now c.args.events.now
    c.loop-i.i c.loop-i.session c.take_event.new.session c.loop-i.text.items c.take_event.new.out.items c.args.steps.now c.loop-i.steps c.take_event.new.steps
    c.index-events-i.result here c.loop-i.invariant taken.taken taken.counted
