use Rattle.std.proofs.Common.{refl, arith}
use Rattle.cell_splitting.specs.Splits.ComeBySplits.{unsplit}
use Rattle.planner.proofs.start.even_cells.Goals as goal

pub returns : goal.returns
returns c =
    let whole = c.in_ok-cells.ensures in
    let made = c.in_ok-split_evenly.ensures in
    let even = c.split_evenly.new.cells in
    let fit = c.splits_known.ensures.fit c.args.rules.now c.in_ok-cells.cells even made.come whole.fit in
    record {
      whole = c.in_ok-cells.cells;
      even = even;
      times = made.even.0;
      are_whole = whole.whole;
      are_even = made.even.1;
      halved = made.come;
      split = unsplit even refl;
      within = omega (arith, made.even.1.within, whole.fit.2.points);
      fit = fit;
      points = fit.2.points;
      start = c.relaxed_costs_known.ensures.start even fit;
    }
