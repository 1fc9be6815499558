use Rattle.std.proofs.Common.{◌≡◌, ◌∙◌, ℤ, length, get_or, arith, subst, to_z, of_z, w64}
use Rattle.std.proofs.lemmas.Int.{ints}
use Rattle.rail_specs.specs.Rules.{no_timing}
use Rattle.rule_changes.specs.Advance.{timing_from}
use Rattle.rule_changes.proofs.AdvanceLists.{mapped, over}
use Rattle.rule_changes.proofs.advance.count_from.Goals as goal

pub returns : goal.returns
returns c =
    let old = c.args.timings.now.items in
    let new = c.loop-timing.timing-items in
    let count : length new ≡ length old = c.loop-timing.invariant.0 in
    let same : to_z w64 (of_z w64 c.args.later) ≡ c.args.later = omega (arith, ints, c.requires.later) in
    over c.args.timings.now.len old new count (omega arith)
    ∙ mapped (timing_from c.args.k c.args.later) old new no_timing count (λ i l. subst (λ (z : ℤ). get_or new i no_timing ≡ timing_from c.args.k z (get_or old i no_timing)) same
    (c.loop-timing.invariant.1 i (omega (arith, count, c.loop-timing-test.false, c.deref_mut-timing-items.ensures.len))))
