use Rattle.std.proofs.Common.{◌∙◌, arith}
use Rattle.time_multipliers.proofs.PriceLemmas.{step_price-more, step_price-same}
use Rattle.time_multipliers.proofs.prices.price_behind.Goals as goal
use Rattle.time_multipliers.proofs.prices.price_behind.Goals.{then-i-points, else-i-points}

pub loop-j-preserved : goal.loop-j-preserved
loop-j-preserved c =
    let v = c.loop-j.invariant in
    elim c.if-i-points.branch [
      | then-i-points w ↦ record {
        value = w.price-is ∙ step_price-more _ c.args.i c.loop-j.j c.loop-j.price w.if-i-points.true v.value;
        small = omega (arith, v.small, w.price-is, c.requires.low c.loop-j.j);
      }
      | else-i-points w ↦ record {
        value = w.price-is ∙ step_price-same _ c.args.i c.loop-j.j c.loop-j.price w.if-i-points.false v.value;
        small = omega (arith, v.small, w.price-is);
      }
    ]
