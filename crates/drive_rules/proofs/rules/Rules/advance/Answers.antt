use Rattle.std.proofs.Common.{◌≡◌, ℤ, subst, sym, arith, to_z, of_z, w64}
use Rattle.std.proofs.lemmas.Int.{ints}
use Rattle.rail_specs.specs.Rules.{Rules}
use Rattle.rule_parts.specs.Shaped.{rules_of}
use Rattle.joined_rules.specs.Joined.{Joins}
use Rattle.rule_changes.specs.Advance.{GoesOnJoined}
use Rattle.drive_rules.proofs.rules.Rules.advance.Goals as goal

pub returns-clause-joined : goal.returns-clause-joined
returns-clause-joined g c =
    let old : Rules = rules_of c.self.inside.parts in
    let new : Rules = rules_of c.advance_to.new.parts in
    let same : to_z w64 (of_z w64 c.args.later) ≡ c.args.later = omega (arith, ints, c.requires.later) in
    let joined : GoesOnJoined c.args.line.now c.args.stretches.now c.args.place c.args.speed c.args.later old new =
    subst (λ (z : ℤ). GoesOnJoined c.args.line.now c.args.stretches.now c.args.place c.args.speed z old new) same c.advance_to.ensures.joined in
    λ train service setup clock is j l. joined train service setup clock is (subst (λ (r : Rules). Joins c.args.line.now train service setup r) (sym c.self.view_is) j) l
