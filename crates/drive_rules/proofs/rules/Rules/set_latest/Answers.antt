use Rattle.std.proofs.Common.{◌≡◌, arith, to_z, of_z, w64, subst}
use Rattle.std.proofs.lemmas.Int.{ints}
use Rattle.std.specs.Prelude.{OnOk}
use Rattle.rail_specs.specs.Rules.{Rules}
use Rattle.rule_parts.specs.Shaped.{rules_of}
use Rattle.rule_changes.specs.Latest.{StaysJoined}
use Rattle.drive_rules.proofs.rules.Rules.set_latest.Goals as goal

pub returns-clause-joined : goal.returns-clause-joined
returns-clause-joined c =
    let same : to_z w64 (of_z w64 c.args.latest) ≡ c.args.latest = omega (arith, ints, c.requires.small) in
    let joined = rw same at c.set_latest.ensures.joined in
    subst (λ (r : Rules). OnOk c.set_latest.result (StaysJoined c.args.point c.args.latest r (rules_of c.set_latest.new.parts))) c.self.view_is joined
