use Rattle.std.proofs.Common.{◌≡◌, ◌∙◌, sym, ap}
use Rattle.speed_envelopes.specs.Bounds.{Setting}
use Rattle.speed_envelopes.specs.declared.bounds.Side.TheVariants.{Least}
use Rattle.speed_envelopes.proofs.Parts.{pair_from_driven, driven_from_pair}
use Rattle.speed_envelopes.proofs.bounds.Bounds.keeps.Goals as goal

pub returns-in-Least : goal.returns-in-Least
returns-in-Least c =
    let side : c.args.self.now.side ≡ Least = sym (ap (λ (s : Setting). s.side) c.self.view_is) ∙ c.in-Least.is in
    let top : c.top-top.result ≡ c.args.self.now.rules.top = c.top-top.ensures.value ∙ ap (λ (s : Setting). s.rules.top) c.self.view_is in
    let k = rw top at c.keeps_speeds-in-Least.ensures in
    (λ t. pair_from_driven c.args.self.now c.args.i c.args.entry c.args.exit side (k.0 t), λ h. k.1 (driven_from_pair c.args.self.now c.args.i c.args.entry c.args.exit side h))
