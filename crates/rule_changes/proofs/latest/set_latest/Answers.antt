use Rattle.std.proofs.Common.{◌≡◌, arith, to_z, of_z, w64}
use Rattle.std.proofs.lemmas.Int.{ints}
use Rattle.rule_changes.proofs.LatestJoined.{stays_joined_by}
use Rattle.rule_parts.specs.Shaped.{rules_of}
use Rattle.rule_changes.proofs.LatestKept.{latest_shaped_by}
use Rattle.rule_changes.proofs.latest.set_latest.Goals as goal

pub returns-clause-shaped : goal.returns-clause-shaped
returns-clause-shaped c =
    let same : to_z w64 (of_z w64 c.args.latest) ≡ c.args.latest = omega (arith, ints, c.requires.small) in
    latest_shaped_by c.put.result (rules_of c.args.parts.now) c.args.point c.args.latest c.put.new.timings.items c.requires.shaped c.requires.after c.requires.there c.requires.small c.requires.room
    (rw same at c.put.ensures.set) (rw same at c.put.ensures.others) c.put.ensures.refused

pub returns-clause-joined : goal.returns-clause-joined
returns-clause-joined c =
    let same : to_z w64 (of_z w64 c.args.latest) ≡ c.args.latest = omega (arith, ints, c.requires.small) in
    stays_joined_by c.put.result (rules_of c.args.parts.now) c.args.point c.args.latest c.put.new.timings.items (rw same at c.put.ensures.others)
