use Rattle.std.proofs.Common.{◌≡◌, ℤ, subst, arith, to_z, of_z, w64}
use Rattle.std.proofs.lemmas.Int.{ints}
use Rattle.rule_parts.specs.Shaped.{rules_of}
use Rattle.rail_specs.specs.Rules.{Rules}
use Rattle.rule_changes.specs.Advance.{IsAdvanced}
use Rattle.rule_changes.proofs.AdvanceShaped.{comes_from, stays_on_line}
use Rattle.rule_changes.proofs.AdvanceJoined.{advanced_limited, goes_on_joined}
use Rattle.rule_changes.proofs.advance.advance_to.Goals as goal

pub set_limits-requires-clause-on_line : goal.set_limits-requires-clause-on_line
set_limits-requires-clause-on_line g c =
    let a = c.advance_places.ensures.advanced in
    stays_on_line c.args.line.now (rules_of c.args.parts.now) (rules_of c.advance_places.new.parts) c.args.place a.last c.requires.shaped c.requires.on_line
    (comes_from (rules_of c.args.parts.now) (rules_of c.advance_places.new.parts) c.args.place c.args.speed _ c.requires.shaped a)

pub returns-clause-joined : goal.returns-clause-joined
returns-clause-joined g c =
    let old : Rules = rules_of c.args.parts.now in
    let mid : Rules = rules_of c.advance_places.new.parts in
    let new : Rules = rules_of c.set_limits.new.parts in
    let same : to_z w64 (of_z w64 c.args.later) ≡ c.args.later = omega (arith, ints, c.requires.later) in
    let a : IsAdvanced old c.args.place c.args.speed c.args.later mid = subst (λ (z : ℤ). IsAdvanced old c.args.place c.args.speed z mid) same c.advance_places.ensures.advanced in
    goes_on_joined c.args.line.now c.args.stretches.now c.args.place c.args.speed c.args.later old new c.requires.shaped c.set_limits.ensures.shaped
    (advanced_limited c.args.line.now c.args.stretches.now c.args.place c.args.speed c.args.later old mid new a c.set_limits.ensures.limited)
    c.set_limits.ensures.limited.limits c.requires.begun c.requires.ends c.requires.moves
