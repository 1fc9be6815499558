use Rattle.std.proofs.Common.{◌+◌, ◌-◌, ◌/◌, ◌<◌, ◌∙◌, ℕ, sym, arith}
use Rattle.link_windows.proofs.WindowLemmas.{reached_before, unreached_behind}
use Rattle.link_windows.proofs.step_links.StepLinks.first_beyond.Goals as goal

pub loop-low-preserved-then-is_reached : goal.loop-low-preserved-then-is_reached
loop-low-preserved-then-is_reached g c =
    let m : ℕ = c.loop-low.low + (c.loop-low.high - c.loop-low.low) / 2 in
    let less : m < c.loop-low.high = omega (arith, c.loop-low-test.true) in
    record {
      ordered = omega (arith, less);
      within = c.loop-low.invariant.within;
      before = reached_before c.args.self.now.priced.rules c.args.self.now.step c.args.a c.args.cells.now m c.known.ensures.sound.shaped c.requires.rising (omega (arith, less, c.loop-low.invariant.within))
          (sym c.is_reached.ensures ∙ c.if-is_reached.true);
      behind = c.loop-low.invariant.behind;
    }

pub loop-low-preserved : goal.loop-low-preserved
loop-low-preserved g c =
    let m : ℕ = c.loop-low.low + (c.loop-low.high - c.loop-low.low) / 2 in
    let less : m < c.loop-low.high = omega (arith, c.loop-low-test.true) in
    record {
      ordered = omega arith;
      within = omega (arith, less, c.loop-low.invariant.within);
      before = c.loop-low.invariant.before;
      behind = unreached_behind c.args.self.now.priced.rules c.args.self.now.step c.args.a c.args.cells.now m c.known.ensures.sound.shaped c.requires.rising (sym c.is_reached.ensures ∙ c.if-is_reached.false);
    }
