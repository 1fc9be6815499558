use Rattle.std.proofs.Common.{arith}
use Rattle.std.proofs.lemmas.Int.{ints}
use Rattle.drive_choice.proofs.choice.improved.Goals as goal

pub search_drive-requires : goal.search_drive-requires
search_drive-requires g c = record {
  kept = record {
    drive = c.requires.best.drive;
    on_time = c.requires.best.on_time;
    costs = c.requires.costs;
  };
}

pub returns-clause-chosen : goal.returns-clause-chosen
returns-clause-chosen g c =
    let found = c.in_ok-prices.ensures in
    record {
      best = record {
        drive = c.in_ok-improve.ensures.kept.drive;
        on_time = c.in_ok-improve.ensures.kept.on_time;
        best = λ m member on_time.
            omega (arith, ints, c.in_ok-improve.ensures.no_worse, found.kept.costs, found.no_worse, c.requires.costs, c.requires.best.best m member on_time);
      };
      costs = omega (arith, ints, c.cost_of_drive-cost.ensures.value, c.cost_of_drive-cost.ensures.small);
      small = omega (arith, ints, c.cost_of_drive-cost.ensures.small);
      count = found.count;
      low = found.in_range;
    }
