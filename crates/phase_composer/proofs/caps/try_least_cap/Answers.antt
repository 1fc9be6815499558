use Rattle.std.proofs.Common.{◌∙◌, ◌+◌, ◌/◌, ◌*◌, ◌-◌, ◌≡◌, arith, ap, refl, rules}
use Rattle.std.proofs.lemmas.Int.{ints}
use Rattle.rail_specs.specs.declared.Narrow.{Narrow}
use Rattle.speed_envelopes.specs.Narrowing.{capped}
use Rattle.phase_composer.proofs.FamilyLemmas.{none-nests, beats-lower, cap-narrower}
use Rattle.phase_composer.proofs.CapLemmas.{least-beats}
use Rattle.phase_composer.proofs.caps.try_least_cap.Goals as goal

pub loop-late-init : goal.loop-late-init
loop-late-init g c = record {
  above = omega arith;
  most = c.requires.cap.1;
  narrow = c.requires.cap.2;
  timely = c.requires.timely;
  none = λ x a b. c.requires.none x a (omega arith);
  beats = c.requires.last;
  kept = c.requires.kept;
  no_worse = omega (arith, ints);
}

pub loop-late-preserved-in-Some : goal.loop-late-preserved-in-Some
loop-late-preserved-in-Some g c =
    let found = rw c.in-Some.is at c.in_ok-lower.ensures.some in
    let narrow = found.0 ∙ c.under_cap.ensures in
    let cap = ap (λ (n : Narrow). n.cap) narrow in
    record {
      above = omega arith;
      most = omega (arith, c.loop-late.invariant.most);
      narrow = rw narrow refl;
      timely = rw found.0 found.1;
      none = c.loop-late.invariant.none;
      beats = rw found.0 c.in_ok-lower.ensures.beats;
      kept = c.tried.ensures.kept;
      no_worse = omega (arith, ints, c.tried.ensures.no_worse, c.loop-late.invariant.no_worse);
    }

pub loop-late-preserved : goal.loop-late-preserved
loop-late-preserved g c =
    let late = rw c.under_cap.ensures at (rw c.in-None.is at c.in_ok-lower.ensures.none) in
    let cap = ap (λ (n : Narrow). n.cap) c.under_cap.ensures in
    record {
      above = omega (arith, c.loop-late.invariant.above);
      most = c.loop-late.invariant.most;
      narrow = c.loop-late.invariant.narrow;
      timely = c.loop-late.invariant.timely;
      none = λ x a b. none-nests c.args.rules.now (capped x) (capped (c.loop-late.late + (c.loop-late.known.narrow.cap - c.loop-late.late) / 2)) c.narrowings_nest.ensures.nest
          (cap-narrower x _ b) late;
      beats = beats-lower (g.C.StepCost.cost c.args.cost.now) c.args.rules.now c.loop-late.known.narrow c.loop-late.best.cost c.tried.new.best.cost c.tried.ensures.no_worse
          c.loop-late.invariant.beats;
      kept = c.tried.ensures.kept;
      no_worse = omega (arith, ints, c.tried.ensures.no_worse, c.loop-late.invariant.no_worse);
    }

pub returns-clause-beats : goal.returns-clause-beats
returns-clause-beats g c =
    least-beats (g.C.StepCost.cost c.args.cost.now) c.args.rules.now c.loop-late.late c.loop-late.known.narrow c.loop-late.known.drive c.loop-late.best.cost c.loop-late.invariant.narrow
    c.loop-late.invariant.timely c.loop-late.invariant.above (omega arith) c.loop-late.invariant.none c.loop-late.invariant.beats
