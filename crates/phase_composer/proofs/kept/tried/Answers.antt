use Rattle.std.proofs.Common.{arith, ap, ◌∙◌, ◌≡◌, ◌≤ℤ◌}
use Rattle.std.proofs.lemmas.Int.{ints}
use Rattle.phase_composer.specs.declared.kept.Kept.{Kept}
use Rattle.phase_composer.proofs.FamilyLemmas.{none-late, beats-none, beats-judged, kept-copied}
use Rattle.phase_composer.proofs.kept.tried.Goals as goal
use Rattle.phase_composer.proofs.kept.tried.Goals.{then-kept-best+in_ok-copy, else-kept-best}

pub returns-in_default-judged-clause-none : goal.returns-in_default-judged-clause-none
returns-in_default-judged-clause-none g c =
    let found = rw c.in-Some.is at c.in_ok-drive.ensures.some in
    none-late c.args.rules.now c.args.narrow.now c.in-Some.drive c.faster_is_on_time.ensures.greatest c.known.ensures found
    (c.in_default-judged.ensures.none found.drive.drive)

pub returns-in_default-judged-clause-beats : goal.returns-in_default-judged-clause-beats
returns-in_default-judged-clause-beats g c =
    let found = rw c.in-Some.is at c.in_ok-drive.ensures.some in
    beats-none (g.C.StepCost.cost c.args.cost.now) c.args.rules.now c.args.narrow.now c.args.best.now.cost
    (none-late c.args.rules.now c.args.narrow.now c.in-Some.drive c.faster_is_on_time.ensures.greatest c.known.ensures found
    (c.in_default-judged.ensures.none found.drive.drive))

pub returns-clause-beats : goal.returns-clause-beats
returns-clause-beats g c =
    let found = rw c.in-Some.is at c.in_ok-drive.ensures.some in
    let cheap : c.if-kept-best.best.cost ≤ℤ c.in-Some-judged.kept.cost = elim c.if-kept-best.branch [
      | then-kept-best+in_ok-copy w ↦ (let e = ap (λ (k : Kept). k.cost) w.best-is in omega (arith, ints))
      | else-kept-best w ↦ (let e = ap (λ (k : Kept). k.cost) w.best-is in omega (arith, ints))
    ] in
    beats-judged (g.C.StepCost.cost c.args.cost.now) c.args.rules.now c.args.narrow.now c.in-Some.drive c.in-Some-judged.kept.drive c.in-Some-judged.kept.cost c.if-kept-best.best.cost found
    c.in-Some-judged.ensures.some.0 c.in-Some-judged.ensures.some.1 cheap

pub returns-clause-kept : goal.returns-clause-kept
returns-clause-kept g c = elim c.if-kept-best.branch [
  | then-kept-best+in_ok-copy w ↦ (let raw = ap (λ (k : Kept). k.cost) w.best-is in let e : c.if-kept-best.best.cost ≡ c.in-Some-judged.kept.cost = omega (arith, ints, raw) in let d = ap (λ (k : Kept). k.drive) w.best-is in
      kept-copied (g.C.StepCost.cost c.args.cost.now) c.args.rules.now c.in-Some-judged.kept.drive c.if-kept-best.best.drive c.in-Some-judged.kept.cost c.if-kept-best.best.cost
      c.in-Some-judged.ensures.some.1 (d ∙ w.in_ok-copy.ensures ∙ w.speeds.ensures) e)
  | else-kept-best w ↦ (let e = ap (λ (k : Kept). k.cost) w.best-is in let d = ap (λ (k : Kept). k.drive) w.best-is in
      kept-copied (g.C.StepCost.cost c.args.cost.now) c.args.rules.now c.args.best.now.drive c.if-kept-best.best.drive c.args.best.now.cost c.if-kept-best.best.cost c.requires.kept d e)
]
