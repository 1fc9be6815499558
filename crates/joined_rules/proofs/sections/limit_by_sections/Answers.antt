use Rattle.std.proofs.Common.{◌<◌, ◌+◌, ◌∙◌, [], length, get_or, arith}
use Rattle.std.proofs.lemmas.List.{length-set}
use Rattle.joined_rules.specs.Joined.{IsLeastLimit}
use Rattle.joined_rules.proofs.JoinedLists.{set_next}
use Rattle.joined_rules.proofs.JoinedSteps.{first_begun, least}
use Rattle.joined_rules.proofs.sections.limit_by_sections.Goals as goal

pub least_from-requires-clause-begun : goal.least_from-requires-clause-begun
least_from-requires-clause-begun c =
    let places = c.args.places.now in
    let i = c.loop-i.i in
    let there : i + 1 < length places = omega (arith, c.loop-i.invariant.count, c.requires.count) in
    let rise : get_or places i 0 < get_or places (i + 1) 0 = c.requires.along.rising i there in
    omega (arith, rise, first_begun c.args.sections.now places c.args.metres i c.first_under-k.result c.requires.sections.follow c.requires.along (omega (arith, there)) c.first_under-k.ensures)

pub loop-i-preserved : goal.loop-i-preserved
loop-i-preserved c =
    let sections = c.args.sections.now in
    let places = c.args.places.now in
    let metres = c.args.metres in
    let i = c.loop-i.i in
    let there : i + 1 < length places = omega (arith, c.loop-i.invariant.count, c.requires.count) in
    let rise : get_or places i 0 < get_or places (i + 1) 0 = c.requires.along.rising i there in
    let first = c.first_under-k.ensures in
    record {
      count = length-set c.loop-i.limits.items i c.least_from.result ∙ c.loop-i.invariant.count;
      there = first.there;
      behind = λ j l. omega (arith, first.behind j l, rise);
      each = set_next (λ j v. IsLeastLimit sections [] metres (get_or places j 0) (get_or places (j + 1) 0) v) c.loop-i.limits.items i c.least_from.result (omega (arith, c.loop-i.invariant.count, c.requires.count))
          c.loop-i.invariant.each (least sections metres (get_or places i 0) (get_or places (i + 1) 0) c.first_under-k.result c.least_from.result c.requires.sections first c.least_from.ensures);
    }
