use Rattle.std.proofs.Common.{◌∙◌, ◌≤ℤ◌, arith}
use Rattle.std.proofs.lemmas.Int.{ints}
use Rattle.rail_specs.specs.Ranges.{no_narrowing}
use Rattle.speed_envelopes.specs.Narrowing.{capped}
use Rattle.phase_composer.proofs.FamilyLemmas.{beats-judged, beats-lower, best-of_family}
use Rattle.phase_composer.proofs.CapLemmas.{tens-lower}
use Rattle.phase_composer.proofs.best.best_of_family.Goals as goal

pub try_tens-requires-clause-beats : goal.try_tens-requires-clause-beats
try_tens-requires-clause-beats g c =
    beats-judged (g.C.StepCost.cost c.args.cost.now) c.args.rules.now no_narrowing c.args.greatest c.in-Some.best.drive c.in-Some.best.cost c.in-Some.best.cost
    c.requires.greatest (c.in-Some.ensures.some.0 ∙ c.in_ok-copy.ensures ∙ c.speeds.ensures) c.in-Some.ensures.some.1 (omega (arith, ints))

pub returns-clause-best : goal.returns-clause-best
returns-clause-best g c =
    let cost = g.C.StepCost.cost c.args.cost.now in
    let r = c.args.rules.now in
    let lower : c.try_coasting.new.best.cost ≤ℤ c.try_tens.new.best.cost = omega (arith, ints, c.try_coasting.ensures.no_worse, c.try_least_cap.ensures.no_worse) in
    best-of_family cost r c.try_coasting.new.best.drive c.try_coasting.new.best.cost c.try_coasting.ensures.kept
    (tens-lower cost r 1 c.try_tens.new.best.cost c.try_coasting.new.best.cost lower c.in_ok-known.ensures.beats)
    (λ cap l. beats-lower cost r (capped cap) c.try_least_cap.new.best.cost c.try_coasting.new.best.cost c.try_coasting.ensures.no_worse (c.in_ok-try_least_cap.ensures.beats cap l))
    c.in_ok-try_coasting.ensures.beats
