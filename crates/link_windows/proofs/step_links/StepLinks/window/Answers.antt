use Rattle.std.proofs.Common.{arith, sym, ◌∙◌}
use Rattle.link_windows.proofs.WindowLemmas.{window_is}
use Rattle.link_windows.proofs.step_links.StepLinks.window.Goals as goal

pub returns : goal.returns
returns g c =
    window_is c.args.self.now.priced.rules c.args.self.now.step c.args.a c.args.cells.now c.first_held-from.result c.first_beyond.result c.max-to.result
    (sym c.is_begun.ensures ∙ c.if-not-is_begun.false) c.first_held-from.ensures.within c.first_beyond.ensures.within c.first_held-from.ensures.before c.first_held-from.ensures.behind
    c.first_beyond.ensures.before c.first_beyond.ensures.behind (omega (arith, c.max-to.ensures)) (omega (arith, c.max-to.ensures)) (λ l. omega (arith, l, c.max-to.ensures))
    (omega (arith, c.max-to.ensures, c.first_held-from.ensures.within, c.first_beyond.ensures.within))
