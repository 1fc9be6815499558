use Rattle.planner.proofs.start.further_splits.Goals as goal

pub returns : goal.returns
returns c = λ budget cells next h come few.
    let fit = c.splits_known.ensures.fit c.args.rules.now cells next come h.fit in
    record {
      whole = h.whole;
      even = h.even;
      times = h.times;
      are_whole = h.are_whole;
      are_even = h.are_even;
      halved = h.halved;
      split = c.splits_known.ensures.again h.even cells next h.split come;
      within = few;
      fit = fit;
      points = fit.2.points;
      start = c.relaxed_costs_known.ensures.start next fit;
    }
